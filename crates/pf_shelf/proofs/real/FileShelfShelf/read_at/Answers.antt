use Rattle.std.proofs.Common.{arith}
use Rattle.pf_shelf.proofs.real.FileShelfShelf.read_at.Goals as goal

pub returns-in-Ok-clause-taken : goal.returns-in-Ok-clause-taken
returns-in-Ok-clause-taken g c = rw (← c.self.view_is) (omega arith)
