-- The middle of two points: what it is where it is whole, and the two halves of a triangle that is cut there.
use Rattle.std.proofs.Common.{◌≡◌, refl, sym, ◌∙◌, ap, subst, Bool, true, false, cond, arith, ◌&&◌}
use Rattle.std.specs.Prelude.{ℕ, ℤ, pos, neg_ℤ, ◌≤ℤ◌, ◌+ℤ◌, ◌-ℤ◌, int_div, int_rem, Some, None}
use Rattle.std.specs.Ordering.{int_eq}
use Rattle.std.proofs.lemmas.Int.{ints, quot-rem}
use Rattle.std.proofs.lemmas.Bool.Decides.{Decides-int_eq}
use Rattle.pf_geom.specs.declared.Point.{Point}
use Rattle.pf_geom.specs.Plane.{IsWithin, IsInRange, orient_of, middle_of}
use Rattle.pf_geom.proofs.Polynomials.{Expression, of, ◌⊕◌, ◌⊖◌, ◌⊗◌, same}
use Rattle.pf_geom.proofs.Orientations.{turn, orient_of-swapped}

-- m is half way from p to q
pub record IsMiddle (p q m : Point) : Type 0 where
  pub across : m.x +ℤ m.x ≡ p.x +ℤ q.x
  pub up : m.y +ℤ m.y ≡ p.y +ℤ q.y

-- q, from p and the middle
abbrev far_from : Point → Point → Point
far_from p m = record { x = m.x +ℤ m.x -ℤ p.x; y = m.y +ℤ m.y -ℤ p.y }

far_is : (p q m : Point) → IsMiddle p q m → q ≡ far_from p m
far_is p q m h =
    let a : q.x ≡ m.x +ℤ m.x -ℤ p.x = (let e = h.across in omega (arith, ints)) in
    let b : q.y ≡ m.y +ℤ m.y -ℤ p.y = (let e = h.up in omega (arith, ints)) in
    λ i. record { x = a i; y = b i }

abbrev far_turn : Point → Point → Point → Expression
far_turn p m z = ((((of m.x ⊕ of m.x) ⊖ of p.x) ⊖ of p.x) ⊗ (of z.y ⊖ of p.y)) ⊖ ((((of m.y ⊕ of m.y) ⊖ of p.y) ⊖ of p.y) ⊗ (of z.x ⊖ of p.x))

half_first : (p m z : Point) → orient_of p m z +ℤ orient_of p m z ≡ orient_of p (far_from p m) z
half_first p m z = same (turn p m z ⊕ turn p m z) (far_turn p m z) (omega arith)

-- the first half has half the orientation
pub orient_of-first_half : (p q m z : Point) → IsMiddle p q m → orient_of p m z +ℤ orient_of p m z ≡ orient_of p q z
orient_of-first_half p q m z h = half_first p m z ∙ ap (λ w. orient_of p w z) (sym (far_is p q m h))

middle_swap : (p q m : Point) → IsMiddle p q m → IsMiddle q p m
middle_swap p q m h = record { across = (let e = h.across in omega (arith, ints)); up = (let e = h.up in omega (arith, ints)) }

-- so has the second
pub orient_of-second_half : (p q m z : Point) → IsMiddle p q m → orient_of m q z +ℤ orient_of m q z ≡ orient_of p q z
orient_of-second_half p q m z h =
    let a = orient_of-first_half q p m z (middle_swap p q m h) in
    let b = orient_of-swapped q m z in
    let c = orient_of-swapped p q z in
    omega (arith, ints, a, b, c)

halves : (z : ℤ) → int_rem z (pos 2) ≡ pos 0 → int_div z (pos 2) +ℤ int_div z (pos 2) ≡ z
halves z h = omega (arith, ints, quot-rem z (pos 2), h)

some_same : {r s : Point} → Some r ≡ Some s → r ≡ s
some_same h = cc

pub middle_of-some : (p q m : Point) → middle_of p q ≡ Some m → IsMiddle p q m
middle_of-some p q m h = go (int_eq (int_rem (p.x +ℤ q.x) (pos 2)) (pos 0)) (int_eq (int_rem (p.y +ℤ q.y) (pos 2)) (pos 0)) refl refl h
  where
    mid : Point
    mid = record { x = int_div (p.x +ℤ q.x) (pos 2); y = int_div (p.y +ℤ q.y) (pos 2) }

    go : (a b : Bool) → int_eq (int_rem (p.x +ℤ q.x) (pos 2)) (pos 0) ≡ a → int_eq (int_rem (p.y +ℤ q.y) (pos 2)) (pos 0) ≡ b → cond (a && b) (Some mid) None ≡ Some m → IsMiddle p q m
    go true true ea eb e =
        let x = halves (p.x +ℤ q.x) ((Decides-int_eq (int_rem (p.x +ℤ q.x) (pos 2)) (pos 0)).0 ea) in
        let y = halves (p.y +ℤ q.y) ((Decides-int_eq (int_rem (p.y +ℤ q.y) (pos 2)) (pos 0)).0 eb) in
        let same' : mid ≡ m = some_same e in
        subst (λ w. IsMiddle p q w) same' record { across = x; up = y }
    go true false ea eb e = absurd (let k : None ≡ Some m = e in cc)
    go false b ea eb e = absurd (let k : None ≡ Some m = e in cc)

middle_within : (most : ℕ) (p q m : ℤ) → m +ℤ m ≡ p +ℤ q → IsWithin most p → IsWithin most q → IsWithin most m
middle_within most p q m e hp hq = record { low = low hp.low hq.low; high = high hp.high hq.high }
  where
    low : neg_ℤ (pos most) ≤ℤ p → neg_ℤ (pos most) ≤ℤ q → neg_ℤ (pos most) ≤ℤ m
    low a b = omega (arith, ints, e, a, b)

    high : p ≤ℤ pos most → q ≤ℤ pos most → m ≤ℤ pos most
    high a b = omega (arith, ints, e, a, b)

-- the middle of two points in range is in range
pub IsMiddle-in_range : (p q m : Point) → IsMiddle p q m → IsInRange p → IsInRange q → IsInRange m
IsMiddle-in_range p q m h hp hq = record { x = middle_within 268435456 p.x q.x m.x h.across hp.x hq.x; y = middle_within 268435456 p.y q.y m.y h.up hp.y hq.y }
