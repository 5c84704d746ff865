use Rattle.std.proofs.Common.{◌≡◌}
use Rattle.std.specs.Prelude.{drop}
use Rattle.pf_plain.specs.Plains.{has_node}
use Rattle.pf_plain.proofs.holding.is_held.Given as goal

abbrev pub invariant-loop-k : goal.invariant-loop-k
invariant-loop-k l = has_node (drop l.k-index l.nodes) l.n ≡ has_node l.nodes l.n
