use Rattle.std.proofs.Common.{rules, ◌∙◌}
use Rattle.std.proofs.lemmas.Int.{to_z-of_z}
use mir.Syntax.{w64}
use Rattle.pf_rules.specs.Lengths.{span_value}
use Rattle.pf_rules.proofs.Measures.{measured-between}
use Rattle.pf_rules.proofs.lengths.measure.Goals as goal

pub returns-clause-len2 : goal.returns-clause-len2
returns-clause-len2 c = λ m a b. to_z-of_z w64 c.len2.result (search rules) ∙ measured-between m c.args.a.name c.args.b.name c.args.a.at c.args.b.at (span_value c.span_of.result) c.len2.result a b c.len2.ensures.formula c.len2.ensures.symmetric c.span_of.ensures.value
