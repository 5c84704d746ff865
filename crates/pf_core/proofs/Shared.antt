-- What is read of all names, as the model has it.
use Rattle.std.proofs.Common.{◌≡◌, ℕ, zero, suc, ◌+◌, ◌<◌, ◌≤◌, Bool, true, false, cond, ◌==◌, ◌&&◌, nat_lt, List, [], ◌∷◌, ◌++◌, length, map, take, refl, sym, ap, ◌∙◌, arith}
use Rattle.std.specs.Prelude.{Option, slice_index, filter}
use Rattle.std.proofs.lemmas.List.{length-map}
use Rattle.pf_model.specs.declared.Spoke.{Spoke}
use Rattle.pf_model.specs.declared.Tri.{Tri}
use Rattle.pf_star_model.specs.Lent.{spokes_in}
use Rattle.pf_core_model.specs.declared.sharer.Sharer.{Sharer}
use Rattle.pf_core_model.specs.Sharers.{kept_in}
use Rattle.pf_core_model.specs.Core.{Opening, names_of}
use Rattle.pf_core_model.specs.History.{is_free, free_tris_in}
use Rattle.pf_core_model.specs.State.{CoreState, list_at, free_part_from, free_part_of, counts_of}
use Rattle.pf_core.specs.declared.state.State.{State}
use Rattle.pf_core.specs.declared.tables.Node.{Node}
use Rattle.pf_core.specs.Tables.{node_at, code_in}
use Rattle.pf_core.specs.Part.{is_free_at, is_free_spoke, tri_for, tris_at, tris_from, part_from, count_codes}
use Rattle.pf_core.specs.Shown.{ShowsState}
use Rattle.pf_core.proofs.Kept.{names, word_is, list_is}

-- no more names have a word than there are
fewer : (test : ℕ → Bool) (ns : List ℕ) → length (filter test ns) ≤ length ns
fewer test [] = omega arith
fewer test (n ∷ ns) = go (test n) (fewer test ns)
  where
    go : (b : Bool) → length (filter test ns) ≤ length ns → length (cond b (n ∷ filter test ns) (filter test ns)) ≤ suc (length ns)
    go true h = omega arith
    go false h = omega arith

pub count_low : (test : ℕ → Bool) (nodes : List Node) → count_codes test nodes ≤ length nodes
count_low test nodes = let z = fewer test (map code_in nodes) in let y = length-map nodes code_in in omega arith

module _ (o : Opening) (c : CoreState) (s : State) (sh : ShowsState o c s) where
  free_is : (n : ℕ) → is_free (names_of o) c.words n ≡ is_free_at s.nodes.items n
  free_is n = go (nat_lt n (names_of o)) ∙ ap (λ (k : ℕ). k == 0) (word_is o c s sh n)
    where
      go : (b : Bool) → (b && (slice_index c.words n == 0)) ≡ (cond b (slice_index c.words n) 2 == 0)
      go true = refl
      go false = refl

  tris_are : (n : ℕ) (ss : List Spoke) → free_tris_in (names_of o) c.words n ss ≡ tris_at s.nodes.items n ss
  tris_are n [] = refl
  tris_are n (x ∷ xs) = λ i. cond ((nat_lt n x.right && nat_lt n x.left) && (free_is x.right i && free_is x.left i)) (tri_for n x ∷ tris_are n xs i) (tris_are n xs i)

  part_are : (more n : ℕ) → free_part_from (names_of o) c.words c.lists n more ≡ part_from s.nodes.items n more
  part_are zero n = refl
  part_are (suc more) n = λ i. cond (free_is n i) ((ap (λ (l : List Sharer). free_tris_in (names_of o) c.words n (spokes_in (kept_in l))) (list_is o c s sh n) ∙ tris_are n (spokes_in (kept_in (node_at s.nodes.items n).list))) i) [] ++ part_are more (suc n) i

  pub part_is : part_from s.nodes.items 0 (length s.nodes.items) ≡ free_part_of o c
  part_is = ap (part_from s.nodes.items 0) (names o c s sh) ∙ sym (part_are (names_of o) 0)

  front : (xs : List Node) (t : ℕ) → take (length xs) (map code_in xs ++ t ∷ []) ≡ map code_in xs
  front [] t = refl
  front (x ∷ xs) t = ap (λ (l : List ℕ). code_in x ∷ l) (front xs t)

  pub count_is : (test : ℕ → Bool) → count_codes test s.nodes.items ≡ length (filter test (take (names_of o) c.words))
  count_is test = ap (λ (l : List ℕ). length (filter test l)) (sym (front s.nodes.items (length s.log.items)) ∙ (λ i. take (names o c s sh i) (sym sh.words i)))
