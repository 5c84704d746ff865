use Rattle.std.proofs.Common.{sym, ◌∙◌}
use Rattle.pf_rules.proofs.ContractReads.{neighbour-edge, not-own}
use Rattle.pf_edge_list.proofs.edges.Edges.is_beside.Goals as goal

pub returns-then-x-v : goal.returns-then-x-v
returns-then-x-v c = λ m ok are. c.has.ensures m ok are ∙ sym (neighbour-edge m ok c.args.x c.args.v)

pub returns-else-x-v : goal.returns-else-x-v
returns-else-x-v c = λ m ok are. not-own m ok c.args.x c.args.v c.if-x-v.false
