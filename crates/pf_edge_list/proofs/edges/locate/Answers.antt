use Rattle.pf_rules.specs.Lengths.{span_value}
use Rattle.pf_edge_list.proofs.EdgesLocated.{located-listed}
use Rattle.pf_edge_list.proofs.edges.locate.Goals as goal

pub returns-in-Some : goal.returns-in-Some
returns-in-Some c = located-listed c.args.table.now.sides c.args.edges.now.list.items (span_value c.args.e) c.in-Some.place c.index.result.now c.requires c.in-Some.ensures.found c.index.ensures
