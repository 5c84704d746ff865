use Rattle.pf_judge.proofs.SpokesShown.{beside-shown}
use Rattle.pf_rules.proofs.ContractReads.{not-own}
use Rattle.pf_judge.proofs.contract.is_beside.Goals as goal

pub returns-then-x-v : goal.returns-then-x-v
returns-then-x-v c = λ m ok s. beside-shown c.args.table.now.sides c.args.table.now.nodes.items m ok s c.args.x c.args.v c.is_edge.result c.is_edge.ensures

pub returns-else-x-v : goal.returns-else-x-v
returns-else-x-v c = λ m ok s. not-own m ok c.args.x c.args.v c.if-x-v.false
