-- The copies and the text of a chunk by places are those by the lists.
use Rattle.std.proofs.Common.{◌≡◌, ◌∙◌, ℕ, ◌<◌, List, [], ◌∷◌, ◌++◌, length, ap, refl, sym, flat_map, map, Bool, true, false, not, cond, ◌&&◌, ◌==◌, Option, Some, None, pos, Vec, Global}
use Rattle.std.specs.Prelude.{filter, codes, decimal, unwrap_or}
use Rattle.std.specs.List.{cons_option, range_with_len}
use Rattle.std.specs.Option.{option_map}
use Rattle.std.proofs.lemmas.List.{length-map}
use Rattle.std.proofs.lemmas.List.Elements.{All-filter}
use Rattle.std.proofs.lemmas.List.Folds.{flat_map-map}
use Rattle.std.proofs.lemmas.Simd.{map-map}
use Rattle.pf_model.specs.declared.Tri.{Tri}
use Rattle.pf_model.specs.Stars.{Star, is_sharer, keeper_in}
use Rattle.pf_model.specs.Texts.{line_text}
use Rattle.pf_star_model.specs.Copies.{Copy}
use Rattle.pf_assemble.specs.ChunkList.{is_ghost, is_shared_by_others, shared_words, ghost_words}
use Rattle.pf_assemble.specs.Divided.{copies_in}
use Rattle.pf_assemble.specs.Listed.{part_text, shared_in}
use Rattle.pf_assemble.specs.Placed.{tri_at, star_at, row_at, copy_at, is_owned_at, is_ghost_at, is_sharer_at, has_other, sharing_line, ghost_line, placed_text}
use Rattle.pf_assemble.specs.Rows.{taken}
use Rattle.pf_assemble.specs.Spaced.{counts_words}
use Rattle.pf_assemble.proofs.Filling.{taken-below}
use Rattle.pf_assemble.proofs.Places.{read-taken, map-filter, filter-filter, flat-same}

-- a chunk's copy of a star
abbrev copy : ℕ → Star → Copy
copy c s = record { chunk = c; star = s }

-- a star as the copy that a chunk has of it, or none
abbrev due-by : ℕ → Star → Bool → Option Copy
due-by c s b = option_map (λ x. record { chunk = c; star = x }) (cond b (Some s) None)

copies-filter : (c : ℕ) (stars : List Star) → map (copy c) (filter (λ s. is_sharer c s.spokes) stars) ≡ copies_in c stars
copies-filter c [] = refl
copies-filter c (s ∷ ss) = go (is_sharer c s.spokes) (filter (λ r. is_sharer c r.spokes) ss) (copies-filter c ss)
  where
    go : (b : Bool) (rest : List Star) → map (copy c) rest ≡ copies_in c ss → map (copy c) (cond b (s ∷ rest) rest) ≡ cons_option (due-by c s b) (copies_in c ss)
    go true rest e = ap (λ l. copy c s ∷ l) e
    go false rest e = e

-- the copies of a chunk
pub copies-placed : (c : ℕ) (stars : List Star) → map (copy_at c stars) (taken (is_sharer_at stars c) (length stars)) ≡ copies_in c stars
copies-placed c stars =
    sym (map-map (copy c) (star_at stars) (taken (is_sharer_at stars c) (length stars)))
    ∙ (ap (map (copy c)) (read-taken (λ s. is_sharer c s.spokes) stars record { node = 0; at = record { x = pos 0; y = pos 0 }; spokes = [] })
    ∙ copies-filter c stars)

-- the triangles at places that are taken
tris-placed : (p : Tri → Bool) (tris : List Tri) → map (tri_at tris) (taken (λ i. p (tri_at tris i)) (length tris)) ≡ filter p tris
tris-placed p tris = read-taken p tris record { a = 0; b = 0; c = 0; owner = 0 }

pub counted : (p : Tri → Bool) (tris : List Tri) → length (taken (λ i. p (tri_at tris i)) (length tris)) ≡ length (filter p tris)
counted p tris = sym (length-map (taken (λ i. p (tri_at tris i)) (length tris)) (tri_at tris)) ∙ ap length (tris-placed p tris)

-- the text of a chunk, by the places that are taken for it
module _ (stars : List Star) (tris : List Tri) (owners : List (Vec ℕ Global)) (chunks c : ℕ) (all : (p : ℕ) → p < length stars → row_at owners p ≡ taken (λ d. is_sharer_at stars d p) chunks) where
  abbrev pub nodes : List ℕ
  nodes = taken (is_sharer_at stars c) (length stars)

  abbrev pub shared : List ℕ
  shared = filter (λ p. has_other c (star_at stars p)) nodes

  abbrev pub ghosts : List ℕ
  ghosts = taken (is_ghost_at tris c) (length tris)

  abbrev line : Copy → List ℕ
  line x = line_text (shared_words chunks c x)

  nodes-are : length nodes ≡ length (copies_in c stars)
  nodes-are = sym (length-map nodes (copy_at c stars)) ∙ ap length (copies-placed c stars)

  shared-are : map (copy_at c stars) shared ≡ shared_in c stars
  shared-are = map-filter (is_shared_by_others c) (copy_at c stars) nodes ∙ ap (filter (is_shared_by_others c)) (copies-placed c stars)

  shared-count : length shared ≡ length (shared_in c stars)
  shared-count = sym (length-map shared (copy_at c stars)) ∙ ap length shared-are

  line-is : (p : ℕ) → p < length stars → sharing_line stars owners c p ≡ line (copy_at c stars p)
  line-is p l =
      let same : filter (λ d. not (d == c)) (row_at owners p) ≡ filter (λ d. not (d == c) && is_sharer_at stars d p) (range_with_len 0 chunks) =
      ap (filter (λ d. not (d == c))) (all p l) ∙ filter-filter (λ d. not (d == c)) (λ d. is_sharer_at stars d p) (range_with_len 0 chunks) in
      λ i. line_text (codes "shared" ∷ decimal (star_at stars p).node ∷ codes "with" ∷ map decimal (same i) ++ codes "keeper" ∷ decimal (unwrap_or (keeper_in (star_at stars p).spokes) 0) ∷ [])

  lines-are : flat_map (sharing_line stars owners c) shared ≡ flat_map line (shared_in c stars)
  lines-are =
      flat-same (sharing_line stars owners c) (λ p. line (copy_at c stars p)) (λ p. p < length stars) line-is shared
      (All-filter (λ p. has_other c (star_at stars p)) (λ p. p < length stars) nodes (taken-below (is_sharer_at stars c) (length stars)))
      ∙ (sym (flat_map-map line (copy_at c stars) shared) ∙ ap (flat_map line) shared-are)

  ghosts-are : flat_map (ghost_line tris) ghosts ≡ flat_map (λ t. line_text (ghost_words t)) (filter (is_ghost tris c) tris)
  ghosts-are = sym (flat_map-map (λ (t : Tri). line_text (ghost_words t)) (tri_at tris) ghosts) ∙ ap (flat_map (λ (t : Tri). line_text (ghost_words t))) (tris-placed (is_ghost tris c) tris)

  pub text-placed : (owned : ℕ) (ns gs : List ℕ) → owned ≡ length (taken (is_owned_at tris c) (length tris)) → ns ≡ nodes → gs ≡ ghosts → placed_text stars tris owners c owned ns gs ≡ part_text stars tris chunks c
  text-placed owned ns gs o n g =
      (λ i. placed_text stars tris owners c (o i) (n i) (g i))
      ∙ λ i. line_text (counts_words c record { triangles = counted (λ t. t.owner == c) tris i; nodes = nodes-are i; shared = shared-count i; ghosts = counted (is_ghost tris c) tris i }) ++ lines-are i ++ ghosts-are i
