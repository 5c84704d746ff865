use Rattle.pf_edges.proofs.Sides.{side_at-updates}
use Rattle.pf_edges.proofs.table.remove_edge.Goals as goal

pub returns-clause-sides : goal.returns-clause-sides
returns-clause-sides c = λ a b. side_at-updates c.args.sides.now c.swap_remove.new.self _ _ _ c.swap_remove.ensures.updates a b
