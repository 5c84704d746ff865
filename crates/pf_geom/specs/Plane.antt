-- The plane: points with whole-number coordinates, by formula.
use Rattle.std.specs.Prelude.{ℕ, ℤ, pos, neg_ℤ, ◌+ℤ◌, ◌-ℤ◌, ◌*ℤ◌, ◌≤ℤ◌, ◌&&◌, cond, Option, Some, None, int_div, int_rem}
use Rattle.std.specs.Ordering.{int_eq}
use Rattle.pf_geom.specs.declared.Point.{Point}

-- the number's magnitude is at most this
pub record IsWithin (most : ℕ) (z : ℤ) : Type 0 where
  pub low : neg_ℤ (pos most) ≤ℤ z
  pub high : z ≤ℤ pos most

-- the greatest magnitude of a coordinate
abbrev pub most_coordinate : ℕ
most_coordinate = 268435456

-- both coordinates have a magnitude of at most 268,435,456
pub record IsInRange (p : Point) : Type 0 where
  pub x : IsWithin most_coordinate p.x
  pub y : IsWithin most_coordinate p.y

-- twice the signed area of the triangle a, b, c: positive where the three points turn counterclockwise
abbrev pub orient_of : Point → Point → Point → ℤ
orient_of a b c = (b.x -ℤ a.x) *ℤ (c.y -ℤ a.y) -ℤ (b.y -ℤ a.y) *ℤ (c.x -ℤ a.x)

-- the squared distance from a to b
abbrev pub len2_of : Point → Point → ℤ
len2_of a b = (b.x -ℤ a.x) *ℤ (b.x -ℤ a.x) +ℤ (b.y -ℤ a.y) *ℤ (b.y -ℤ a.y)

-- the point half way between a and b, where its coordinates are whole
abbrev pub middle_of : Point → Point → Option Point
middle_of a b =
    cond (int_eq (int_rem (a.x +ℤ b.x) (pos 2)) (pos 0) && int_eq (int_rem (a.y +ℤ b.y) (pos 2)) (pos 0))
    (Some record { x = int_div (a.x +ℤ b.x) (pos 2); y = int_div (a.y +ℤ b.y) (pos 2) })
    None
