use Rattle.std.proofs.Common.{◌≡◌, length}
use Rattle.pf_assemble.specs.ChunkList.{owns_at}
use Rattle.pf_assemble.specs.Rows.{AreTaken}
use Rattle.pf_assemble.proofs.ghosts.sharer_rows.Given as goal

-- the chunks before this one
abbrev pub invariant-chunks : goal.invariant-chunks
invariant-chunks l = (length l.rows.items ≡ l.names) × AreTaken l.rows.items (λ n c. owns_at c n l.tris) l.chunk
