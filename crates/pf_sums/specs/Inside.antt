-- Which points a triangle holds.
use Rattle.std.specs.Prelude.{Bool, ◌&&◌, ℤ, pos, int_lt}
use Rattle.pf_geom.specs.declared.Point.{Point}
use Rattle.pf_geom.specs.Plane.{orient_of}
use Rattle.pf_model.specs.Sums.{scaled}

-- the point is strictly left of the path from a to b, with both multiplied by q
abbrev pub is_strictly_left : ℤ → Point → Point → Point → Bool
is_strictly_left q p a b = int_lt (pos 0) (orient_of (scaled q a) (scaled q b) p)

-- the point is strictly inside the triangle a, b, c, with each corner multiplied by q
abbrev pub is_strictly_inside : ℤ → Point → Point → Point → Point → Bool
is_strictly_inside q p a b c = is_strictly_left q p a b && (is_strictly_left q p b c && is_strictly_left q p c a)
