-- Where the corners of a cell stand.
use Rattle.std.proofs.Common.{◌≡◌, ◌∙◌, ℕ, ◌+◌, ◌*◌, ◌/◌, ◌%◌, ◌<◌, ◌≤◌, length, pos, ◌-ℤ◌, ap, refl, arith}
use Rattle.std.proofs.lemmas.Int.{ints}
use Rattle.std.proofs.lemmas.Nat.{mul-add-lt, div-mul-add, mod-mul-add, div_below, mod_below, le-div}
use Rattle.std.proofs.lemmas.List.FromFn.{length-map-range_with_len, get_or-map-range_with_len}
use Rattle.pf_geom.specs.declared.Point.{Point}
use Rattle.pf_geom.specs.Plane.{orient_of}
use Rattle.pf_model.specs.Build.{point_at}
use Rattle.pf_gen.specs.Grid.{grid_point, grid_points, corner_of}

-- the node of column a and row b
abbrev pub spot : ℕ → ℕ → Point
spot a b = record { x = pos (64 * a); y = pos (64 * b) }

pub grid-length : (n : ℕ) → length (grid_points n) ≡ (n + 1) * (n + 1)
grid-length n = length-map-range_with_len (grid_point n) 0 ((n + 1) * (n + 1))

-- the node at a place of the list is that of its column and row
pub spot_at : (n a b : ℕ) → a < n + 1 → b < n + 1 → (k : ℕ) → k ≡ b * (n + 1) + a → point_at (grid_points n) k ≡ spot a b
spot_at n a b h g k e =
    let inside : k < (n + 1) * (n + 1) = let m = mul-add-lt b (n + 1) a (n + 1) g h in omega (arith, m) in
    get_or-map-range_with_len (grid_point n) 0 ((n + 1) * (n + 1)) k k record { x = pos 0; y = pos 0 } inside (omega arith)
    ∙ ap (grid_point n) e
    ∙ (let c = mod-mul-add b (n + 1) a h in let r = div-mul-add b (n + 1) a h in λ i. record { x = pos (64 * c i); y = pos (64 * r i) })

-- a cell's column and row, and the corners from them
pub row_below : (n cell : ℕ) → 0 < n → cell < n * n → cell / n < n
row_below n cell h g = div_below cell n n h g

pub column_below : (n cell : ℕ) → 0 < n → cell % n < n
column_below n cell h = mod_below cell n h

-- a later cell's corner has a greater name
pub corner_rises : (n cell : ℕ) → 0 < n → corner_of n cell < corner_of n (cell + 1)
corner_rises n cell h =
    let rows : cell / n ≤ (cell + 1) / n = le-div (cell / n) (cell + 1) n h (omega arith) in
    omega (arith, rows)

step : (a : ℕ) → pos (64 * (a + 1)) -ℤ pos (64 * a) ≡ pos 64
step a = omega (arith, ints)

none : (a : ℕ) → pos (64 * a) -ℤ pos (64 * a) ≡ pos 0
none a = omega (arith, ints)

-- both halves of a cell turn left
pub lower_turns : (a b : ℕ) → orient_of (spot a b) (spot (a + 1) b) (spot (a + 1) (b + 1)) ≡ pos 4096
lower_turns a b = rw (step a, step b, none b) refl

pub upper_turns : (a b : ℕ) → orient_of (spot a b) (spot (a + 1) (b + 1)) (spot a (b + 1)) ≡ pos 4096
upper_turns a b = rw (step a, step b, none a) refl
