use Rattle.std.proofs.Common.{rules}
use Rattle.pf_rules.proofs.Signed.{summed, doubled, both_le}
use Rattle.pf_rules.proofs.lengths.is_before_right.Goals as goal

pub returns : goal.returns
returns c = both_le _ _ _ _ (summed c.args.a.x c.args.b.x _ _ (search rules) (search rules) c.from.ensures c.from-2.ensures) (doubled c.args.row.now.xhi _ (search rules) c.from-3.ensures)
