use Rattle.std.proofs.Common.{◌≡◌}
use Rattle.std.specs.List.{range_with_len}
use Rattle.pf_adapt.proofs.lists.names_below.Given as goal

abbrev pub invariant-names : goal.invariant-names
invariant-names l = l.list.items ≡ range_with_len 0 l.n
