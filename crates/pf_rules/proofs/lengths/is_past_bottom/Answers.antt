use Rattle.std.proofs.Common.{rules}
use Rattle.pf_rules.proofs.Signed.{summed, doubled, both_le}
use Rattle.pf_rules.proofs.lengths.is_past_bottom.Goals as goal

pub returns : goal.returns
returns c = both_le _ _ _ _ (doubled c.args.row.now.ylo _ (search rules) c.from.ensures) (summed c.args.a.y c.args.b.y _ _ (search rules) (search rules) c.from-2.ensures c.from-3.ensures)
