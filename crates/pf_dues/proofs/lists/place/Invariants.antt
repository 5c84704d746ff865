use Rattle.std.proofs.Common.{◌≡◌, ◌+◌, drop}
use Rattle.pf_dues.specs.Lists.{index_of}
use Rattle.pf_dues.proofs.lists.place.Given as goal

abbrev pub invariant-loop-i : goal.invariant-loop-i
invariant-loop-i l = index_of l.chunk l.list ≡ l.i + index_of l.chunk (drop l.i l.list)
