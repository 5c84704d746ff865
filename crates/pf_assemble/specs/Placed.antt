-- Stars and triangles by their places in a list, and the text of a chunk by places.
use Rattle.std.specs.Prelude.{◌≡◌, ℕ, ◌<◌, List, [], ◌∷◌, ◌++◌, Bool, not, ◌==◌, pos, codes, decimal, filter, flat_map, map, length, slice_index_or, unwrap_or, All, Vec}
use Rattle.std.specs.List.{list_any}
use Rattle.std.specs.declared.alloc.Global.{Global}
use Rattle.pf_model.specs.declared.Tri.{Tri}
use Rattle.pf_model.specs.Stars.{Star, is_sharer, keeper_in}
use Rattle.pf_model.specs.Texts.{line_text}
use Rattle.pf_star_model.specs.Copies.{Copy}
use Rattle.pf_assemble.specs.ChunkList.{is_ghost, ghost_words}
use Rattle.pf_assemble.specs.Rows.{AreTaken}
use Rattle.pf_assemble.specs.Spaced.{counts_words}

-- the triangle at a place
abbrev pub tri_at : List Tri → ℕ → Tri
tri_at ts i = slice_index_or ts i record { a = 0; b = 0; c = 0; owner = 0 }

-- the star at a place
abbrev pub star_at : List Star → ℕ → Star
star_at stars p = slice_index_or stars p record { node = 0; at = record { x = pos 0; y = pos 0 }; spokes = [] }

-- the row at a place
abbrev pub row_at : List (Vec ℕ Global) → ℕ → List ℕ
row_at rows p = slice_index_or (map (λ row. row.items) rows) p []

-- a chunk's copy of the star at a place
abbrev pub copy_at : ℕ → List Star → ℕ → Copy
copy_at c stars p = record { chunk = c; star = star_at stars p }

-- the chunk owns the triangle at the place
abbrev pub is_owned_at : List Tri → ℕ → ℕ → Bool
is_owned_at ts c i = (tri_at ts i).owner == c

-- the triangle at the place is a ghost of the chunk
abbrev pub is_ghost_at : List Tri → ℕ → ℕ → Bool
is_ghost_at ts c i = is_ghost ts c (tri_at ts i)

-- the chunk shares the node at the place
abbrev pub is_sharer_at : List Star → ℕ → ℕ → Bool
is_sharer_at stars c p = is_sharer c (star_at stars p).spokes

-- another chunk owns one of the spokes
abbrev pub has_other : ℕ → Star → Bool
has_other c star = list_any (λ s. not (s.owner == c)) star.spokes

-- the corners of the triangles are below n
abbrev pub AreCornersBelow : ℕ → List Tri → Type 0
AreCornersBelow n ts = All (λ t. (t.a < n) × ((t.b < n) × (t.c < n))) ts

-- the line of a node that these chunks share
abbrev pub sharing_words : List ℕ → ℕ → Star → List (List ℕ)
sharing_words owners c star =
    codes "shared"
    ∷ decimal star.node
    ∷ codes "with"
    ∷ map decimal (filter (λ d. not (d == c)) owners)
    ++ codes "keeper"
    ∷ decimal (unwrap_or (keeper_in star.spokes) 0)
    ∷ []

-- the line of the node at a place
abbrev pub sharing_line : List Star → List (Vec ℕ Global) → ℕ → ℕ → List ℕ
sharing_line stars owners c p = line_text (sharing_words (row_at owners p) c (star_at stars p))

-- the line of the triangle at a place
abbrev pub ghost_line : List Tri → ℕ → List ℕ
ghost_line ts i = line_text (ghost_words (tri_at ts i))

-- the text of a chunk that owns so many triangles, by the places of its nodes and of its ghosts
abbrev pub placed_text : List Star → List Tri → List (Vec ℕ Global) → ℕ → ℕ → List ℕ → List ℕ → List ℕ
placed_text stars tris owners c owned nodes ghosts =
    let shared : List ℕ = filter (λ p. has_other c (star_at stars p)) nodes in
    line_text (counts_words c record { triangles = owned; nodes = length nodes; shared = length shared; ghosts = length ghosts })
    ++ flat_map (sharing_line stars owners c) shared
    ++ flat_map (ghost_line tris) ghosts

-- the rows of a mesh with these stars and triangles: for each of so many chunks the triangles that it owns, the nodes that
-- it shares and its ghosts, and for each node the chunks that share it
pub record AreRowsOf (stars : List Star) (tris : List Tri) (chunks : ℕ) (owned nodes owners ghosts : List (Vec ℕ Global)) : Type 0 where
  pub owned_len : length owned ≡ chunks
  pub owned_is : AreTaken owned (is_owned_at tris) (length tris)
  pub nodes_len : length nodes ≡ chunks
  pub nodes_is : AreTaken nodes (is_sharer_at stars) (length stars)
  pub owners_len : length owners ≡ length stars
  pub owners_is : AreTaken owners (λ p c. is_sharer_at stars c p) chunks
  pub ghosts_len : length ghosts ≡ chunks
  pub ghosts_is : AreTaken ghosts (is_ghost_at tris) (length tris)
