use Rattle.pf_rings.proofs.Least.{next-parts}
use Rattle.pf_rings.proofs.spokes.least_after.Goals as goal

pub returns : goal.returns
returns c = rw (c.least_left.ensures, c.least_right-least.ensures) (next-parts c.args.spokes.now c.args.after)
