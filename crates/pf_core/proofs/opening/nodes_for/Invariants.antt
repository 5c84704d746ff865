use Rattle.std.proofs.Common.{◌≡◌}
use Rattle.std.specs.Prelude.{map}
use Rattle.pf_star_model.specs.Lent.{star_held}
use Rattle.pf_core_model.specs.Lists.{counting}
use Rattle.pf_core.specs.First.{first_node}
use Rattle.pf_core.proofs.opening.nodes_for.Given as goal

abbrev pub invariant-loop-n : goal.invariant-loop-n
invariant-loop-n l = l.list.items ≡ map (first_node (star_held l.set) l.first_new l.chunks) (counting 0 l.n)
