-- How large a product is.
use Rattle.std.proofs.Common.{◌≡◌, ◌∙◌, refl, ℕ, suc, ◌*◌, ◌≤◌, arith}
use Rattle.std.specs.Prelude.{ℤ, pos, negsuc, ◌+ℤ◌, ◌-ℤ◌, ◌*ℤ◌, ◌≤ℤ◌}
use Rattle.std.proofs.lemmas.Int.{ints, to_z-of_z}
use Rattle.std.specs.Int.RustNames.{FitsSigned}
use mir.Val.{to_z, of_z}
use mir.Syntax.{w64}
use Rattle.std.proofs.Math.Nat.{mul-le-mul}
use Rattle.pf_geom.specs.declared.Point.{Point}
use Rattle.pf_geom.specs.Plane.{IsWithin, len2_of}

pub product-within : (m n : ℕ) (x y : ℤ) → IsWithin m x → IsWithin n y → IsWithin (m * n) (x *ℤ y)
product-within m n (pos a) (pos b) h k = let hi = h.high in let ki = k.high in let p : a * b ≤ m * n = mul-le-mul (omega (arith, ints)) (omega (arith, ints)) in record { low = omega (arith, ints); high = omega (arith, ints) }
product-within m n (pos a) (negsuc b) h k = let hi = h.high in let ki = k.low in let p : a * suc b ≤ m * n = mul-le-mul (omega (arith, ints)) (omega (arith, ints)) in record { low = omega (arith, ints); high = omega (arith, ints) }
product-within m n (negsuc a) (pos b) h k = let hi = h.low in let ki = k.high in let p : suc a * b ≤ m * n = mul-le-mul (omega (arith, ints)) (omega (arith, ints)) in record { low = omega (arith, ints); high = omega (arith, ints) }
product-within m n (negsuc a) (negsuc b) h k = let hi = h.low in let ki = k.low in let p : suc a * suc b ≤ m * n = mul-le-mul (omega (arith, ints)) (omega (arith, ints)) in record { low = omega (arith, ints); high = omega (arith, ints) }

-- a product that fits, of numbers as a call passes them
pub passed-fits : (x y : ℤ) → FitsSigned w64 x → FitsSigned w64 y → IsWithin 536870912 x → IsWithin 536870912 y → FitsSigned w64 (to_z w64 (of_z w64 x) *ℤ to_z w64 (of_z w64 y))
passed-fits x y f g h k = rw (to_z-of_z w64 x f, to_z-of_z w64 y g) (fits (x *ℤ y) (product-within 536870912 536870912 x y h k))
  where
    fits : (z : ℤ) → IsWithin 288230376151711744 z → FitsSigned w64 z
    fits z w = let l = w.low in let u = w.high in omega (arith, ints)

pub passed-value : (x y : ℤ) → FitsSigned w64 x → FitsSigned w64 y → IsWithin 536870912 x → IsWithin 536870912 y → to_z w64 (of_z w64 (to_z w64 (of_z w64 x) *ℤ to_z w64 (of_z w64 y))) ≡ x *ℤ y
passed-value x y f g h k = to_z-of_z w64 _ (passed-fits x y f g h k) ∙ rw (to_z-of_z w64 x f, to_z-of_z w64 y g) refl

square-not_negative : (z : ℤ) → pos 0 ≤ℤ (z *ℤ z)
square-not_negative (pos n) = omega (arith, ints)
square-not_negative (negsuc n) = omega (arith, ints)

pub len2_of-not_negative : (a b : Point) → pos 0 ≤ℤ len2_of a b
len2_of-not_negative a b = sum (b.x -ℤ a.x) (b.y -ℤ a.y)
  where
    sum : (x y : ℤ) → pos 0 ≤ℤ (x *ℤ x +ℤ y *ℤ y)
    sum x y = let p = square-not_negative x in let q = square-not_negative y in add (x *ℤ x) (y *ℤ y) p q
      where
        add : (v w : ℤ) → pos 0 ≤ℤ v → pos 0 ≤ℤ w → pos 0 ≤ℤ (v +ℤ w)
        add v w p q = omega (arith, ints)
