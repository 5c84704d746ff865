use Rattle.std.proofs.Common.{◌≡◌}
use Rattle.std.specs.Prelude.{map}
use Rattle.pf_core_model.specs.Lists.{counting}
use Rattle.pf_core.specs.First.{start_seat}
use Rattle.pf_core.proofs.opening.seats_for.Given as goal

abbrev pub invariant-loop-k : goal.invariant-loop-k
invariant-loop-k l = l.list.items ≡ map (start_seat l.budget) (counting 0 l.k)
