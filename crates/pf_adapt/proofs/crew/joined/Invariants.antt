use Rattle.std.proofs.Common.{vec_len}
use Rattle.pf_adapt.proofs.Jobs.{AreJoined}
use Rattle.pf_adapt.proofs.crew.joined.Given as goal

abbrev pub invariant-jobs : goal.invariant-jobs
invariant-jobs l = AreJoined l.board l.left.items l.seat

abbrev pub decreases-jobs : goal.decreases-jobs
decreases-jobs l = vec_len l.left
