use Rattle.std.proofs.Common.{◌≡◌, ◌++◌, take}
use Rattle.pf_dues.specs.Owed.{owed_by}
use Rattle.pf_dues.proofs.owing.owe_spokes.Given as goal

abbrev pub invariant-loop-s : goal.invariant-loop-s
invariant-loop-s l = l.list.items ≡ l.fn.list.items ++ owed_by l.node (take l.s-index l.spokes)
