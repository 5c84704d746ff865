use Rattle.std.proofs.Common.{rules}
use Rattle.pf_rules.proofs.Signed.{same_bits}
use Rattle.pf_rules.proofs.lengths.is_as_long.Goals as goal

pub returns : goal.returns
returns c = same_bits c.args.e.len2 c.args.f.len2 (search rules) (search rules)
