use Rattle.pf_assemble.proofs.Filling.{last-is}
use Rattle.pf_assemble.proofs.rows.ends_with.Goals as goal

pub returns-then-len-gt0 : goal.returns-then-len-gt0
returns-then-len-gt0 c = λ p b e. last-is p c.args.n b c.args.row.now e c.if-len-gt0.true
