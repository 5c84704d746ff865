use Rattle.std.specs.Prelude.{Some}
use Rattle.pf_ghost.proofs.ByOwner.{sharers_narrow}
use Rattle.pf_ghost.proofs.sharers.sharers_of_owned.Goals as goal

pub invariant_of-result : goal.invariant_of-result
invariant_of-result c = rw c.in_ok-list.ensures (sharers_narrow c.args.chunks (Some c.args.star) c.ranges.chunks.fits)
