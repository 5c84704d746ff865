use Rattle.pf_ghost.proofs.Spreading.{spread_puts_due}
use Rattle.pf_ghost.proofs.laws.spread_puts_due.Goals as goal

pub returns : goal.returns
returns c = spread_puts_due
