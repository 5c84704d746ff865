-- Signed numbers as calls pass them.
use Rattle.std.proofs.Common.{◌≡◌, refl, sym, ◌∙◌, ap, Bool, true, false, arith}
use Rattle.std.specs.Prelude.{ℤ, pos, ◌+ℤ◌, ◌*ℤ◌, int_le, int_lt, nat_eq}
use Rattle.std.specs.Ordering.{int_eq}
use Rattle.std.specs.Int.RustNames.{FitsSigned}
use Rattle.std.proofs.lemmas.Bool.Decides.{Decides-int_eq, Decides-eqb}
use Rattle.std.proofs.lemmas.Int.{ints, to_z-of_z}
use mir.Syntax.{w32, w64, w128}
use mir.Val.{to_z, of_z}

-- equal bits are equal numbers
pub same_bits : (x y : ℤ) → FitsSigned w64 x → FitsSigned w64 y → nat_eq (of_z w64 x) (of_z w64 y) ≡ int_eq x y
same_bits x y f g = go (nat_eq (of_z w64 x) (of_z w64 y)) refl (int_eq x y) refl
  where
    to : nat_eq (of_z w64 x) (of_z w64 y) ≡ true → int_eq x y ≡ true
    to e = (Decides-int_eq x y).1 (sym (to_z-of_z w64 x f) ∙ (ap (to_z w64) ((Decides-eqb _ _).0 e) ∙ to_z-of_z w64 y g))

    from : int_eq x y ≡ true → nat_eq (of_z w64 x) (of_z w64 y) ≡ true
    from e = (Decides-eqb _ _).1 (ap (of_z w64) ((Decides-int_eq x y).0 e))

    go : (b : Bool) → nat_eq (of_z w64 x) (of_z w64 y) ≡ b → (c : Bool) → int_eq x y ≡ c → nat_eq (of_z w64 x) (of_z w64 y) ≡ int_eq x y
    go true e c f' = e ∙ sym (to e)
    go false e true f' = from f' ∙ sym f'
    go false e false f' = e ∙ sym f'

-- the sum of two coordinates, in wider numbers
pub summed : (p q f g : ℤ) → FitsSigned w32 p → FitsSigned w32 q → f ≡ to_z w32 (of_z w32 p) → g ≡ to_z w32 (of_z w32 q) → to_z w64 (of_z w64 (to_z w64 (of_z w64 f) +ℤ to_z w64 (of_z w64 g))) ≡ p +ℤ q
summed p q f g k l x y = let u : f ≡ p = x ∙ to_z-of_z w32 p k in let v : g ≡ q = y ∙ to_z-of_z w32 q l in omega (arith, ints)

-- twice a coordinate
pub doubled : (p f : ℤ) → FitsSigned w32 p → f ≡ to_z w32 (of_z w32 p) → to_z w64 (of_z w64 (pos 2 *ℤ to_z w64 (of_z w64 f))) ≡ pos 2 *ℤ p
doubled p f k x = let u : f ≡ p = x ∙ to_z-of_z w32 p k in omega (arith, ints)

pub both_le : (p q r s : ℤ) → p ≡ r → q ≡ s → int_le p q ≡ int_le r s
both_le p q r s e f = λ i. int_le (e i) (f i)

-- a squared length, in wider numbers
pub widened : (x f : ℤ) → FitsSigned w64 x → f ≡ to_z w64 (of_z w64 x) → to_z w128 (of_z w128 f) ≡ x
widened x f k e = let u : f ≡ x = e ∙ to_z-of_z w64 x k in omega (arith, ints)

-- four times one
pub quadrupled : (x f : ℤ) → FitsSigned w64 x → f ≡ to_z w64 (of_z w64 x) → to_z w128 (of_z w128 (pos 4 *ℤ to_z w128 (of_z w128 f))) ≡ pos 4 *ℤ x
quadrupled x f k e = let u : f ≡ x = e ∙ to_z-of_z w64 x k in omega (arith, ints)

pub both_lt : (p q r s : ℤ) → p ≡ r → q ≡ s → int_lt p q ≡ int_lt r s
both_lt p q r s e f = λ i. int_lt (e i) (f i)
