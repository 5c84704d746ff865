use Rattle.std.proofs.Common.{◌≡◌}
use Rattle.pf_ghost.specs.Prepared.{ready_of}
use Rattle.pf_ghost.proofs.ready.prepare_owned.Given as goal

abbrev pub invariant-loop-h : goal.invariant-loop-h
invariant-loop-h g l = l.lists.items ≡ ready_of l.chunks l.yielded
