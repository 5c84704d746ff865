use Rattle.std.proofs.Common.{◌≡◌, length}
use Rattle.pf_assemble.specs.Placed.{is_sharer_at}
use Rattle.pf_assemble.specs.Rows.{AreTaken}
use Rattle.pf_assemble.proofs.lists.node_rows.Given as goal

-- the stars before this one
abbrev pub invariant-stars : goal.invariant-stars
invariant-stars l = (length l.rows.items ≡ l.chunks) × AreTaken l.rows.items (is_sharer_at l.stars) l.place
