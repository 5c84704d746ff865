-- Orientations and squared lengths as polynomials: turned round, mirrored, and the two cuts of a quadrilateral.
use Rattle.std.proofs.Common.{◌≡◌, arith}
use Rattle.std.specs.Prelude.{pos, ◌+ℤ◌}
use Rattle.pf_geom.specs.declared.Point.{Point}
use Rattle.pf_geom.specs.Plane.{orient_of, len2_of}
use Rattle.pf_geom.proofs.Polynomials.{Expression, of, ◌⊕◌, ◌⊖◌, ◌⊗◌, same}

-- orient_of, as an expression
abbrev pub turn : Point → Point → Point → Expression
turn a b c = ((of b.x ⊖ of a.x) ⊗ (of c.y ⊖ of a.y)) ⊖ ((of b.y ⊖ of a.y) ⊗ (of c.x ⊖ of a.x))

-- len2_of, as an expression
abbrev pub squares : Point → Point → Expression
squares a b = ((of b.x ⊖ of a.x) ⊗ (of b.x ⊖ of a.x)) ⊕ ((of b.y ⊖ of a.y) ⊗ (of b.y ⊖ of a.y))

pub orient_of-turned : (a b c : Point) → orient_of a b c ≡ orient_of b c a
orient_of-turned a b c = same (turn a b c) (turn b c a) (omega arith)

-- a triangle with a corner twice is flat
pub orient_of-twice : (a c : Point) → orient_of a a c ≡ pos 0
orient_of-twice a c = same (turn a a c) (of (pos 0)) (omega arith)

-- a triangle and its mirror image
pub orient_of-swapped : (a b c : Point) → orient_of a b c +ℤ orient_of b a c ≡ pos 0
orient_of-swapped a b c = same (turn a b c ⊕ turn b a c) (of (pos 0)) (omega arith)

-- the two triangles of a quadrilateral, cut one way and the other
pub orient_of-cuts : (a b c d : Point) → orient_of a b c +ℤ orient_of b a d ≡ orient_of a d c +ℤ orient_of b c d
orient_of-cuts a b c d = same (turn a b c ⊕ turn b a d) (turn a d c ⊕ turn b c d) (omega arith)

pub len2_of-swapped : (a b : Point) → len2_of a b ≡ len2_of b a
len2_of-swapped a b = same (squares a b) (squares b a) (omega arith)
