-- Laws of the plane.
use Rattle.std.specs.Prelude.{◌≡◌, ◌+ℤ◌}
use Rattle.pf_geom.specs.declared.Point.{Point}
use Rattle.pf_geom.specs.Plane.{orient_of}

-- the two triangles of a quadrilateral p, d, q, c have the same doubled area together, whichever diagonal cuts it
abbrev pub FlipCutsAgree : Type 0
FlipCutsAgree = (p q c d : Point) → orient_of p q c +ℤ orient_of q p d ≡ orient_of p d c +ℤ orient_of q c d
