-- The chunk list of a mesh: what each chunk owns and shares, and which triangles it sees of others.
use Rattle.std.specs.Prelude.{ℕ, List, [], ◌∷◌, ◌++◌, Bool, not, ◌&&◌, ◌||◌, ◌==◌, codes, decimal, flat_map, filter, map, length, unwrap_or}
use Rattle.std.specs.List.{list_any, range_with_len}
use Rattle.pf_model.specs.declared.Tri.{Tri}
use Rattle.pf_model.specs.Mesh.{Undivided, has_corner}
use Rattle.pf_model.specs.Stars.{Star, is_sharer, keeper_in}
use Rattle.pf_model.specs.Texts.{lines_text}
use Rattle.pf_star_model.specs.Copies.{Copy, copies_at}

-- the chunk owns a triangle at the node, which it then shares
abbrev pub owns_at : ℕ → ℕ → List Tri → Bool
owns_at c n ts = list_any (λ t. t.owner == c && has_corner n t) ts

-- a ghost triangle of the chunk: one that it doesn't own, with a corner that it shares
abbrev pub is_ghost : List Tri → ℕ → Tri → Bool
is_ghost ts c t = not (t.owner == c) && (owns_at c t.a ts || (owns_at c t.b ts || owns_at c t.c ts))

-- the ghost triangles of the chunk, by rising corners
abbrev pub ghosts_at : Undivided → ℕ → List Tri
ghosts_at m c = filter (is_ghost m.tris c) m.tris

-- the triangles that the chunk owns
abbrev pub owned_by : Undivided → ℕ → List Tri
owned_by m c = filter (λ t. t.owner == c) m.tris

-- another chunk than this one shares the copy's node
abbrev pub is_shared_by_others : ℕ → Copy → Bool
is_shared_by_others c x = list_any (λ s. not (s.owner == c)) x.star.spokes

-- the chunk's copies of the nodes that others share too, by rising node
abbrev pub shared_at : Undivided → ℕ → List Copy
shared_at m c = filter (is_shared_by_others c) (copies_at m c)

-- the other chunks, of so many, that share the copy's node, rising
abbrev pub others_in : ℕ → ℕ → Star → List ℕ
others_in chunks c star = filter (λ d. not (d == c) && is_sharer d star.spokes) (range_with_len 0 chunks)

-- the line of a chunk
abbrev pub chunk_words : Undivided → ℕ → List (List ℕ)
chunk_words m c =
    codes "chunk"
    ∷ decimal c
    ∷ codes "triangles"
    ∷ decimal (length (owned_by m c))
    ∷ codes "nodes"
    ∷ decimal (length (copies_at m c))
    ∷ codes "shared"
    ∷ decimal (length (shared_at m c))
    ∷ codes "ghosts"
    ∷ decimal (length (ghosts_at m c))
    ∷ []

-- the line of a node that the chunk shares with others: those, and the keeper
abbrev pub shared_words : ℕ → ℕ → Copy → List (List ℕ)
shared_words chunks c x =
    codes "shared"
    ∷ decimal x.star.node
    ∷ codes "with"
    ∷ map decimal (others_in chunks c x.star)
    ++ codes "keeper"
    ∷ decimal (unwrap_or (keeper_in x.star.spokes) 0)
    ∷ []

-- the line of a ghost triangle
abbrev pub ghost_words : Tri → List (List ℕ)
ghost_words t = codes "ghost" ∷ decimal t.a ∷ decimal t.b ∷ decimal t.c ∷ codes "of" ∷ decimal t.owner ∷ []

-- the lines of a chunk
abbrev pub chunk_lines_at : Undivided → ℕ → List (List (List ℕ))
chunk_lines_at m c = chunk_words m c ∷ map (shared_words m.chunks c) (shared_at m c) ++ map ghost_words (ghosts_at m c)

-- the chunk list
abbrev pub chunk_list_of : Undivided → List ℕ
chunk_list_of m = lines_text (flat_map (chunk_lines_at m) (range_with_len 0 m.chunks))
