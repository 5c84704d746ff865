use Rattle.std.proofs.Common.{◌∙◌}
use Rattle.pf_sums.proofs.EdgeLemmas.{missed-is_open}
use Rattle.pf_sums.proofs.edges.is_open.Goals as goal

pub returns : goal.returns
returns c = λ ts are. c.is_err.ensures.value ∙ missed-is_open ts c.args.edges.now are c.args.from c.args.to c.binary_search.result c.binary_search.ensures.bound c.binary_search.ensures.position
