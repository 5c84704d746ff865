-- The middle of two points, from the halves of their coordinates' sums.
use Rattle.std.proofs.Common.{◌≡◌, Bool, true, false, cond, ◌&&◌, arith}
use Rattle.std.specs.Prelude.{ℤ, Option, Some, None}
use Rattle.std.proofs.lemmas.Int.{ints, to_z-of_z}
use mir.Syntax.{w32}
use mir.Val.{to_z, of_z}
use Rattle.pf_geom.specs.declared.Point.{Point}
use Rattle.pf_geom.specs.Plane.{IsWithin}

-- a coordinate, as a call passes it
pub passed : (z : ℤ) → IsWithin 268435456 z → to_z w32 (of_z w32 z) ≡ z
passed z w = to_z-of_z w32 z (let l = w.low in let h = w.high in omega (arith, ints))

-- a half, where the sum is even
abbrev half_if : Bool → ℤ → Option ℤ
half_if even half = cond even (Some half) None

-- a point of two halves, where both sums are even
abbrev point_if : Bool → Bool → ℤ → ℤ → Option Point
point_if even even' half half' = cond (even && even') (Some record { x = half; y = half' }) None

pub both_whole : (even even' : Bool) (half half' x y : ℤ) → Some x ≡ half_if even half → Some y ≡ half_if even' half' → Some record { x = x; y = y } ≡ point_if even even' half half'
both_whole true true half half' x y e f = cc
both_whole true false half half' x y e f = absurd (let k : Some y ≡ None = f in cc)
both_whole false even' half half' x y e f = absurd (let k : Some x ≡ None = e in cc)

pub second_odd : (even even' : Bool) (half half' : ℤ) → None ≡ half_if even' half' → None ≡ point_if even even' half half'
second_odd true true half half' e = absurd (let k : None ≡ Some half' = e in cc)
second_odd true false half half' e = cc
second_odd false even' half half' e = cc
