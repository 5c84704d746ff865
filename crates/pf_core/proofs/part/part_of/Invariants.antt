use Rattle.std.proofs.Common.{◌≡◌, ◌++◌, ◌-◌, length}
use Rattle.pf_core.specs.Part.{part_from}
use Rattle.pf_core.proofs.part.part_of.Given as goal

abbrev pub invariant-loop-n : goal.invariant-loop-n
invariant-loop-n l = l.list.items ++ part_from l.nodes l.n (length l.nodes - l.n) ≡ part_from l.nodes 0 (length l.nodes)
