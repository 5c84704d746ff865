use Rattle.pf_rest.proofs.WalksLocated.{noted-read}
use Rattle.pf_rest.proofs.known.known_end.Goals as goal

pub returns-then-place-ends : goal.returns-then-place-ends
returns-then-place-ends c = noted-read c.args.at c.args.ends.now c.in-Some.place c.in-Some.is c.if-place-ends.true
