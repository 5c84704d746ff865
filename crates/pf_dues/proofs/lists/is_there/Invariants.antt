use Rattle.std.proofs.Common.{◌≡◌, drop}
use Rattle.pf_dues.specs.Lists.{has_copy}
use Rattle.pf_dues.proofs.lists.is_there.Given as goal

abbrev pub invariant-loop-s : goal.invariant-loop-s
invariant-loop-s l = has_copy l.chunk (drop l.s-index l.list) ≡ has_copy l.chunk l.list
