-- The list of all copies is that of the mesh.
use Rattle.std.proofs.Common.{◌≡◌, ℕ, zero, suc, ◌+◌, ◌<◌, ◌≤◌, true, List, refl, sym, ap, ◌∙◌, subst, inl, inr, ⊎_elim, arith}
use Rattle.std.specs.Prelude.{Option, Some, None, Contains}
use Rattle.std.proofs.lemmas.Bool.Decides.{nat_tests}
use mathlib.Core.Logic.{dite}
use native.Mathlib.Decide.{ℕ_discrete}
use Rattle.pf_model.specs.Mesh.{Undivided}
use Rattle.pf_model.specs.Conforming.{IsConforming, IsLive}
use Rattle.pf_model.specs.Stars.{Star, star_of, is_sharer}
use Rattle.pf_model.proofs.RisingLemmas.{IsStrictOrder, rising-same}
use Rattle.pf_star_model.specs.Copies.{Copy, due_copy, copy_of, copy_lt, copies_of}
use Rattle.pf_star_model.proofs.Shown.{star_parts}
use Rattle.pf_star_model.proofs.Copies.{due_copy-means, copies-means, copies-has, copies_are_shared, sharer_below}
use Rattle.pf_core_model.specs.declared.sharer.Sharer.{Sharer}
use Rattle.pf_core_model.specs.Lists.{In}
use Rattle.pf_core_model.specs.Sharers.{sharer_list, sharers_from}
use Rattle.pf_core_model.specs.Closing.{sharer_of, AreAllCopies}
use Rattle.pf_core_model.proofs.Lists.{in_either, in_left, in_right}
use Rattle.pf_core_model.proofs.Seats.{star_some, star_named}

-- members of the list of a node
record IsListed (first more : ℕ) (star : Option Star) (s : Sharer) : Type 0 where
  pub above : first ≤ s.chunk
  pub below : s.chunk < first + more
  pub due : due_copy s.chunk star ≡ Some s.star

in_listed : (first more : ℕ) (star : Option Star) (s : Sharer) → In s (sharers_from first more star) → IsListed first more star s
in_listed first zero star s h = absurd h
in_listed first (suc more) star s h =
    ⊎_elim
    (λ (k : In s (sharer_list first (due_copy first star))). here (due_copy first star) refl k)
    (λ (k : In s (sharers_from (suc first) more star)). let r = in_listed (suc first) more star s k in
    record { above = let z = r.above in omega arith; below = let z = r.below in omega arith; due = r.due })
    (in_either s (sharer_list first (due_copy first star)) (sharers_from (suc first) more star) h)
  where
    here : (c : Option Star) → due_copy first star ≡ c → In s (sharer_list first c) → IsListed first (suc more) star s
    here None e k = absurd k
    here (Some x) e (inr k) = absurd k
    here (Some x) e (inl k) =
        let at : s.chunk ≡ first = ap (λ (y : Sharer). y.chunk) k in
        record {
          above = omega arith;
          below = omega arith;
          due = ap (λ (i : ℕ). due_copy i star) at ∙ e ∙ ap (λ (y : Sharer). Some y.star) (sym k);
        }

listed_in : (first more chunk : ℕ) (star : Option Star) (s : Star) → first ≤ chunk → chunk < first + more → due_copy chunk star ≡ Some s → In (record { chunk = chunk; star = s }) (sharers_from first more star)
listed_in first zero chunk star s up low e = absurd (omega arith)
listed_in first (suc more) chunk star s up low e = dite (ℕ_discrete chunk first)
    (λ is.
    let c : due_copy first star ≡ Some s = ap (λ (i : ℕ). due_copy i star) (sym is) ∙ e in
    in_left (record { chunk = chunk; star = s }) (sharer_list first (due_copy first star)) (sharers_from (suc first) more star)
    (subst (λ (x : Option Star). In (record { chunk = chunk; star = s }) (sharer_list first x)) (sym c) (inl (ap (λ (i : ℕ). record { chunk = i; star = s }) is))))
    (λ far. in_right (record { chunk = chunk; star = s }) (sharer_list first (due_copy first star)) (sharers_from (suc first) more star) (listed_in (suc first) more chunk star s (omega arith) (omega arith) e))

copy_order : IsStrictOrder copy_lt
copy_order = record { irreflexive = λ x. grind (arith, nat_tests); transitive = λ x y z h k. grind (arith, nat_tests) }

pub closes : (m : Undivided) (names : ℕ) (copies : List Copy) → IsConforming m → ((n : ℕ) → IsLive m n → n < names) → AreAllCopies m names copies → copies ≡ copies_of m
closes m names copies ok near h = rising-same copy_lt copy_order copies (copies_of m) h.rise (copies_are_shared m ok).rise there back
  where
    there : (x : Copy) → Contains copies x → Contains (copies_of m) x
    there x k =
        let r = h.only x k in
        let d = in_listed 0 m.chunks (star_of m r.0) (sharer_of x) r.2 in
        let due : due_copy x.chunk (star_of m r.0) ≡ Some x.star = d.due in
        let name : x.star.node ≡ r.0 = star_named m r.0 x.star (due_copy-means x.chunk (star_of m r.0) x.star due).star in
        copies-has m ok x.chunk x.star.node x.star (ap (λ (n : ℕ). copy_of m x.chunk n) name ∙ due)

    back : (x : Copy) → Contains (copies_of m) x → Contains copies x
    back x k =
        let n : ℕ = x.star.node in
        let due : copy_of m x.chunk n ≡ Some x.star = copies-means m x k in
        let d = due_copy-means x.chunk (star_of m n) x.star due in
        let live : IsLive m n = star_some m n x.star d.star in
        let spokes = (star_parts m n x.star d.star).spokes in
        let below : x.chunk < m.chunks = sharer_below m ok x.chunk n (subst (λ ss. is_sharer x.chunk ss ≡ true) spokes d.shared) in
        h.all n (near n live) x (listed_in 0 m.chunks x.chunk (star_of m n) x.star (omega arith) (omega arith) due)
