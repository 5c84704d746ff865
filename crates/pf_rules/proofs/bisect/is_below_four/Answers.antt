use Rattle.std.proofs.Common.{◌∙◌, rules}
use Rattle.pf_rules.proofs.Signed.{widened, quadrupled, both_lt}
use Rattle.pf_rules.proofs.bisect.is_below_four.Goals as goal

pub returns : goal.returns
returns c = both_lt _ _ _ _ (widened c.len2.result _ (search rules) c.from.ensures ∙ c.len2.ensures.formula) (quadrupled c.args.least _ (search rules) c.from-2.ensures)
