use Rattle.std.proofs.Common.{◌≡◌, length}
use Rattle.pf_assemble.specs.Placed.{is_ghost_at}
use Rattle.pf_assemble.specs.Rows.{AreTaken}
use Rattle.pf_assemble.proofs.ghosts.near_rows.Given as goal

-- the triangles before this one
abbrev pub invariant-tris : goal.invariant-tris
invariant-tris l = (length l.rows.items ≡ l.chunks) × AreTaken l.rows.items (is_ghost_at l.tris) l.i
