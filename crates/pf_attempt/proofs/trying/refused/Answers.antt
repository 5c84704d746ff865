use Rattle.std.specs.Prelude.{Some}
use Rattle.pf_attempt.proofs.Alone.{failing_alone}
use Rattle.pf_attempt.proofs.trying.refused.Goals as goal

pub returns-clause-alone : goal.returns-clause-alone
returns-clause-alone g c = λ a.
    let m = g.H.Holder in
    let h = c.args.h.now in
    failing_alone (m.opening h) (m.pairs h) (m.allowance h) (m.entries h) c.args.chunk c.args.op (Some c.args.cond) (g.met.H.Holder.alone_knows h a) c.requires.ends.0 c.requires.ends.1 c.requires.fails
