-- A sum over a list, taken element by element.
use Rattle.std.proofs.Common.{◌≡◌, refl, ℕ, ◌+◌, ◌<◌, ◌*◌, add-one, List, length, drop, arith}
use Rattle.std.specs.Prelude.{ℤ, ◌+ℤ◌, slice_index_or}
use Rattle.std.specs.Int.RustNames.{FitsSigned}
use Rattle.std.proofs.lemmas.Int.{ints, to_z-of_z}
use Rattle.std.proofs.Math.Seq.{drop-cons}
use mir.Syntax.{w128}
use mir.Val.{to_z, of_z}
use Rattle.pf_geom.specs.Plane.{IsWithin}
use Rattle.pf_model.specs.Sums.{total}

-- the next element, taken from what is left
total-next : {X : Type 0} (f : X → ℤ) (xs : List X) (i : ℕ) (d : X) → i < length xs → total f (drop i xs) ≡ f (slice_index_or xs i d) +ℤ total f (drop (i + 1) xs)
total-next f xs i d h = rw (add-one, drop-cons xs i d) refl

-- the next element v, put to the sum s of those before
pub summed-next : {X : Type 0} (f : X → ℤ) (xs : List X) (i : ℕ) (d : X) (s v a : ℤ) → i < length xs → s +ℤ total f (drop i xs) ≡ a → v ≡ f (slice_index_or xs i d) → s +ℤ v +ℤ total f (drop (i + 1) xs) ≡ a
summed-next f xs i d s v a h e k = let n = total-next f xs i d h in omega (arith, ints)

-- what is put to a sum, as a call passes it
pub passed-sum : (s v : ℤ) → FitsSigned w128 v → FitsSigned w128 (s +ℤ v) → to_z w128 (of_z w128 (s +ℤ to_z w128 (of_z w128 v))) ≡ s +ℤ v
passed-sum s v f g = rw (to_z-of_z w128 v f) (to_z-of_z w128 (s +ℤ v) g)

pub within-next : (m i : ℕ) (s v : ℤ) → IsWithin (m * i) s → IsWithin m v → IsWithin (m * (i + 1)) (s +ℤ v)
within-next m i s v w b = let wl = w.low in let wh = w.high in let bl = b.low in let bh = b.high in record { low = omega (arith, ints); high = omega (arith, ints) }
