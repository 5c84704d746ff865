use Rattle.std.proofs.Common.{◌≡◌, ◌++◌, drop}
use Rattle.pf_patch.specs.Plans.{moved}
use Rattle.pf_patch.proofs.plan.move_to.Given as goal

abbrev pub invariant-loop-s : goal.invariant-loop-s
invariant-loop-s l = l.list.items ++ moved l.v (drop l.s-index l.spokes) ≡ l.fn.list.items ++ moved l.v l.spokes
