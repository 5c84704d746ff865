-- The chunk list of a mesh by its stars and triangles.
use Rattle.std.proofs.Common.{◌≡◌, ◌∙◌, ℕ, List, [], ◌∷◌, ◌++◌, flat_map, ap, refl, sym, subst, length, append_assoc, Option, Some}
use Rattle.std.specs.Prelude.{filter, map, filter_map, decimal}
use Rattle.std.specs.List.{join_with_byte, range_with_len}
use Rattle.std.specs.Option.{option_map}
use Rattle.std.proofs.lemmas.List.Concat.{flat_map-append}
use Rattle.std.proofs.lemmas.List.Elements.{filter_map-append}
use Rattle.std.proofs.lemmas.List.Folds.{flat_map-map}
use Rattle.pf_model.specs.declared.Site.{Site}
use Rattle.pf_model.specs.Mesh.{Undivided}
use Rattle.pf_model.specs.Stars.{Star, star_of}
use Rattle.pf_model.specs.Texts.{line_text, lines_text}
use Rattle.pf_star_model.specs.Copies.{Copy, due_copy, copies_at, copies_of}
use Rattle.pf_assemble.specs.ChunkList.{owned_by, ghosts_at, is_shared_by_others, shared_words, ghost_words, chunk_lines_at, chunk_list_of}
use Rattle.pf_assemble.specs.Divided.{copies_in}
use Rattle.pf_assemble.specs.Listed.{shared_in, counts_of, part_text}
use Rattle.pf_assemble.specs.Spaced.{spaced, counts_words}

-- numbers with a space each, and two words behind them
pub spaced-words : (ds : List ℕ) (a b : List ℕ) → flat_map spaced ds ++ (a ++ 32 ∷ b) ≡ join_with_byte 32 (map decimal ds ++ a ∷ b ∷ [])
spaced-words [] a b = refl
spaced-words (d ∷ []) a b = append_assoc (decimal d ++ 32 ∷ []) [] (a ++ 32 ∷ b) ∙ append_assoc (decimal d) (32 ∷ []) (a ++ 32 ∷ b)
spaced-words (d ∷ e ∷ ds) a b =
    append_assoc (decimal d ++ 32 ∷ []) (flat_map spaced (e ∷ ds)) (a ++ 32 ∷ b)
    ∙ (append_assoc (decimal d) (32 ∷ []) (flat_map spaced (e ∷ ds) ++ (a ++ 32 ∷ b))
    ∙ ap (λ l. decimal d ++ 32 ∷ l) (spaced-words (e ∷ ds) a b))

-- one element at a time
pub one-by-one : {X Y : Type 0} (h : X → Option Y) (xs : List X) → flat_map (λ x. filter_map h (x ∷ [])) xs ≡ filter_map h xs
one-by-one h [] = refl
one-by-one h (x ∷ xs) = ap (λ l. filter_map h (x ∷ []) ++ l) (one-by-one h xs) ∙ sym (filter_map-append h (x ∷ []) xs)

fused : {X Y Z : Type 0} (h : Y → Option Z) (g : X → Y) (xs : List X) → filter_map h (map g xs) ≡ filter_map (λ x. h (g x)) xs
fused h g [] = refl
fused h g (x ∷ xs) =
    filter_map-append h (g x ∷ []) (map g xs)
    ∙ (ap (λ l. filter_map h (g x ∷ []) ++ l) (fused h g xs)
    ∙ sym (filter_map-append (λ y. h (g y)) (x ∷ []) xs))

-- a chunk's copy of a node with this star, or none
abbrev pub due : ℕ → Option Star → Option Copy
due c o = option_map (λ x. record { chunk = c; star = x }) (due_copy c o)

-- the copies of a chunk, by the stars of the nodes
pub copies-by-stars : (m : Undivided) (c : ℕ) (stars : List Star) → map (λ s. Some s) stars ≡ map (λ s. star_of m s.name) m.sites → copies_at m c ≡ copies_in c stars
copies-by-stars m c stars e =
    sym (fused (due c) (λ (s : Site). star_of m s.name) m.sites)
    ∙ (ap (filter_map (due c)) (sym e)
    ∙ fused (due c) (λ (s : Star). Some s) stars)

-- the lists that a list of lists is made of, joined
pub joined : {X Y Z : Type 0} (f : Y → List Z) (g : X → List Y) (xs : List X) → flat_map f (flat_map g xs) ≡ flat_map (λ x. flat_map f (g x)) xs
joined f g [] = refl
joined f g (x ∷ xs) = flat_map-append f (g x) (flat_map g xs) ∙ ap (λ l. flat_map f (g x) ++ l) (joined f g xs)

-- a line, lines of one kind and lines of another
pub three-kinds : {X Y : Type 0} (head : List (List ℕ)) (f : X → List (List ℕ)) (xs : List X) (g : Y → List (List ℕ)) (ys : List Y) → line_text head ++ flat_map (λ x. line_text (f x)) xs ++ flat_map (λ y. line_text (g y)) ys ≡ flat_map line_text (head ∷ map f xs ++ map g ys)
three-kinds head f xs g ys =
    append_assoc (line_text head) (flat_map (λ x. line_text (f x)) xs) (flat_map (λ y. line_text (g y)) ys)
    ∙ ap (λ l. line_text head ++ l)
    ((λ i. sym (flat_map-map line_text f xs) i ++ sym (flat_map-map line_text g ys) i) ∙ sym (flat_map-append line_text (map f xs) (map g ys)))

-- the lines of a chunk with these copies
abbrev lines_by : Undivided → ℕ → List Copy → List (List (List ℕ))
lines_by m c l =
    counts_words c record { triangles = length (owned_by m c); nodes = length l; shared = length (filter (is_shared_by_others c) l); ghosts = length (ghosts_at m c) }
    ∷ map (shared_words m.chunks c) (filter (is_shared_by_others c) l)
    ++ map ghost_words (ghosts_at m c)

-- the text of a chunk is that of its lines
pub part-of-mesh : (m : Undivided) (stars : List Star) (c : ℕ) → copies_at m c ≡ copies_in c stars → part_text stars m.tris m.chunks c ≡ lines_text (chunk_lines_at m c)
part-of-mesh m stars c e =
    three-kinds (counts_words c (counts_of stars m.tris c)) (shared_words m.chunks c) (shared_in c stars) ghost_words (ghosts_at m c)
    ∙ ap (λ (l : List Copy). lines_text (lines_by m c l)) (sym e)

-- the texts of all chunks are the chunk list
pub list-of-mesh : (m : Undivided) (stars : List Star) → map (λ s. Some s) stars ≡ map (λ s. star_of m s.name) m.sites → flat_map (part_text stars m.tris m.chunks) (range_with_len 0 m.chunks) ≡ chunk_list_of m
list-of-mesh m stars e =
    ap (λ f. flat_map f (range_with_len 0 m.chunks)) (λ i c. part-of-mesh m stars c (copies-by-stars m c stars e) i)
    ∙ sym (joined line_text (chunk_lines_at m) (range_with_len 0 m.chunks))

-- the copies of all chunks are those of the mesh
pub copies-of-mesh : (m : Undivided) (stars : List Star) → map (λ s. Some s) stars ≡ map (λ s. star_of m s.name) m.sites → flat_map (λ c. copies_in c stars) (range_with_len 0 m.chunks) ≡ copies_of m
copies-of-mesh m stars e = ap (λ f. flat_map f (range_with_len 0 m.chunks)) (λ i c. sym (copies-by-stars m c stars e) i)

-- ten words
pub ten-words : (text a b c d e f g h i j : List ℕ)
    → (((((((((text ++ a ++ 32 ∷ []) ++ b ++ 32 ∷ []) ++ c ++ 32 ∷ []) ++ d ++ 32 ∷ []) ++ e ++ 32 ∷ []) ++ f ++ 32 ∷ []) ++ g ++ 32 ∷ []) ++ h ++ 32 ∷ []) ++ i ++ 32 ∷ []) ++ j ++ 10 ∷ []
    ≡ text ++ line_text (a ∷ b ∷ c ∷ d ∷ e ∷ f ∷ g ∷ h ∷ i ∷ j ∷ [])
ten-words text a b c d e f g h i j = simp append_assoc

-- six words
pub six-words : (text a b c d e f : List ℕ)
    → (((((text ++ a ++ 32 ∷ []) ++ b ++ 32 ∷ []) ++ c ++ 32 ∷ []) ++ d ++ 32 ∷ []) ++ e ++ 32 ∷ []) ++ f ++ 10 ∷ []
    ≡ text ++ line_text (a ∷ b ∷ c ∷ d ∷ e ∷ f ∷ [])
six-words text a b c d e f = simp append_assoc

-- three words, numbers with a space each, and two words behind them
pub words-round : (text a b c : List ℕ) (ds s : List ℕ) (d e : List ℕ) → s ≡ flat_map spaced ds
    → (((((text ++ a ++ 32 ∷ []) ++ b ++ 32 ∷ []) ++ c ++ 32 ∷ []) ++ s) ++ d ++ 32 ∷ []) ++ e ++ 10 ∷ []
    ≡ text ++ line_text (a ∷ b ∷ c ∷ map decimal ds ++ d ∷ e ∷ [])
words-round text a b c ds s d e is =
    apart s
    ∙ (ap (λ l. text ++ (a ++ 32 ∷ (b ++ 32 ∷ (c ++ 32 ∷ (l ++ 10 ∷ []))))) (ap (λ l. l ++ (d ++ 32 ∷ e)) is ∙ spaced-words ds d e)
    ∙ together (map decimal ds ++ d ∷ e ∷ []) (some ds))
  where
    apart : (s : List ℕ) → (((((text ++ a ++ 32 ∷ []) ++ b ++ 32 ∷ []) ++ c ++ 32 ∷ []) ++ s) ++ d ++ 32 ∷ []) ++ e ++ 10 ∷ [] ≡ text ++ (a ++ 32 ∷ (b ++ 32 ∷ (c ++ 32 ∷ ((s ++ (d ++ 32 ∷ e)) ++ 10 ∷ []))))
    apart s = simp append_assoc

    spelled : (l : List ℕ) → text ++ (a ++ 32 ∷ (b ++ 32 ∷ (c ++ 32 ∷ (l ++ 10 ∷ [])))) ≡ text ++ ((a ++ 32 ∷ (b ++ 32 ∷ (c ++ 32 ∷ l))) ++ 10 ∷ [])
    spelled l = simp append_assoc

    some : (ds : List ℕ) → (first : List ℕ) × (rest : List (List ℕ)) × (map decimal ds ++ d ∷ e ∷ [] ≡ first ∷ rest)
    some [] = (d, e ∷ [], refl)
    some (x ∷ xs) = (decimal x, map decimal xs ++ d ∷ e ∷ [], refl)

    together : (words : List (List ℕ)) → ((first : List ℕ) × (rest : List (List ℕ)) × (words ≡ first ∷ rest)) → text ++ (a ++ 32 ∷ (b ++ 32 ∷ (c ++ 32 ∷ (join_with_byte 32 words ++ 10 ∷ [])))) ≡ text ++ line_text (a ∷ b ∷ c ∷ words)
    together words it = subst (λ ws. text ++ (a ++ 32 ∷ (b ++ 32 ∷ (c ++ 32 ∷ (join_with_byte 32 ws ++ 10 ∷ [])))) ≡ text ++ line_text (a ∷ b ∷ c ∷ ws)) (sym it.2) (spelled (join_with_byte 32 (it.0 ∷ it.1)))
