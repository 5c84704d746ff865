-- The share of a spoke in a sum of rights less lefts, and one spoke taken out of that sum.
-- Assumes that no right stands twice in the list (`AreDifferent` of the rights).
use Rattle.std.proofs.Common.{◌≡◌, ◌≢◌, ℕ, List, [], ◌∷◌, refl, sym, ◌∙◌, ap, subst, Bool, true, false, cond, arith}
use Rattle.std.specs.Prelude.{ℤ, ◌+ℤ◌, ◌-ℤ◌, Contains, map, not, Some, None, ◌==◌}
use Rattle.std.proofs.lemmas.Int.{ints}
use Rattle.std.proofs.lemmas.Bool.{eqb-true, ne_eqb}
use Rattle.pf_model.specs.Rising.{AreDifferent}
use Rattle.pf_model.specs.declared.Spoke.{Spoke}
use Rattle.pf_model.specs.Stars.{left_after, without_right}
use Rattle.pf_model.specs.Sums.{total}
use Rattle.pf_model.proofs.Members.{here, there, filter-out}
use Rattle.pf_model.proofs.Totals.{map-in, map-means}

abbrev pub rights : List Spoke → List ℕ
rights ss = map (λ s. s.right) ss

-- a spoke's share: its right less its left
abbrev pub share : (ℕ → ℤ) → Spoke → ℤ
share h s = h s.right -ℤ h s.left

without-none : (r : ℕ) (ss : List Spoke) → ((z : ℕ) → Contains (rights ss) z → r ≢ z) → without_right r ss ≡ ss
without-none r [] n = refl
without-none r (s ∷ ss) n = ap (λ b. cond (not b) (s ∷ without_right r ss) (without_right r ss)) (ne_eqb s.right r (λ e. n s.right (here s.right (rights ss)) (sym e))) ∙ ap (λ l. s ∷ l) (without-none r ss (λ z h. n z (there z s.right (rights ss) h)))

pub different-without : (r : ℕ) (ss : List Spoke) → AreDifferent (rights ss) → AreDifferent (rights (without_right r ss))
different-without r [] d = tt
different-without r (s ∷ ss) d = go (s.right == r) (different-without r ss d.1)
  where
    go : (b : Bool) → AreDifferent (rights (without_right r ss)) → AreDifferent (rights (cond (not b) (s ∷ without_right r ss) (without_right r ss)))
    go true ih = ih
    go false ih = ((λ z h. let k = map-means (λ t. t.right) (without_right r ss) z h in d.0 z (subst (λ w. Contains (rights ss) w) k.2 (map-in (λ t. t.right) ss k.0 (filter-out (λ t. not (t.right == r)) k.0 ss k.1).0))), ih)

-- the spoke that a run takes, out of the sum
pub one_less : (h : ℕ → ℤ) (ss : List Spoke) (r l : ℕ) → AreDifferent (rights ss) → left_after ss r ≡ Some l → total (share h) ss ≡ (h r -ℤ h l) +ℤ total (share h) (without_right r ss)
one_less h [] r l d e = absurd (let k : None ≡ Some l = e in cc)
one_less h (s ∷ ss) r l d e = go (s.right == r) refl e (λ f. one_less h ss r l d.1 f)
  where
    some_same : Some s.left ≡ Some l → s.left ≡ l
    some_same f = cc

    go : (b : Bool) → (s.right == r) ≡ b → cond b (Some s.left) (left_after ss r) ≡ Some l → (left_after ss r ≡ Some l → total (share h) ss ≡ (h r -ℤ h l) +ℤ total (share h) (without_right r ss)) → share h s +ℤ total (share h) ss ≡ (h r -ℤ h l) +ℤ total (share h) (cond (not b) (s ∷ without_right r ss) (without_right r ss))
    go true f k ih =
        let a : h s.right ≡ h r = ap h (eqb-true s.right r f) in
        let b : h s.left ≡ h l = ap h (some_same k) in
        let c : total (share h) (without_right r ss) ≡ total (share h) ss = ap (total (share h)) (without-none r ss (λ z q w. d.0 z q (eqb-true s.right r f ∙ w))) in
        omega (arith, ints, a, b, c)
    go false f k ih = let a = ih k in omega (arith, ints, a)
