use Rattle.std.proofs.Common.{◌≡◌, ◌++◌}
use Rattle.pf_entries.specs.Inside.{entries_in}
use Rattle.pf_entries.proofs.parts.copy_all.Given as goal

abbrev pub invariant-loop-left : goal.invariant-loop-left
invariant-loop-left l = l.list.items ++ entries_in l.left ≡ l.initial.list.items ++ entries_in l.chain
