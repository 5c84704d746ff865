use Rattle.std.proofs.Common.{◌∙◌}
use Rattle.pf_model.specs.Clauses.{first_of}
use Rattle.pf_model.specs.Rows.{edge_rows}
use Rattle.pf_rules.proofs.conditions.edge_condition.Goals as goal

pub returns : goal.returns
returns c = λ m sides. c.edge_refusal.ensures ∙ (λ i. first_of (edge_rows c.args.chunk c.args.a c.args.b (sides.on_left i) (sides.on_right i)))
