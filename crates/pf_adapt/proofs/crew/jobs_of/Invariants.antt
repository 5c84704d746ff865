use Rattle.std.proofs.Common.{length, vec_len}
use Rattle.pf_adapt.proofs.Jobs.{AreMade}
use Rattle.pf_adapt.proofs.crew.jobs_of.Given as goal

abbrev pub invariant-seats : goal.invariant-seats
invariant-seats l = AreMade l.board (length l.parts) l.left.items l.jobs.items

abbrev pub decreases-seats : goal.decreases-seats
decreases-seats l = vec_len l.left
