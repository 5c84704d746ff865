use Rattle.std.specs.Prelude.{None}
use Rattle.pf_holder.specs.Facts.{mesh_alone}
use Rattle.pf_attempt.proofs.Alone.{failing_alone, failing_from, probe_told}
use Rattle.pf_attempt.proofs.asking.probe.Goals as goal

pub returns-clause-alone : goal.returns-clause-alone
returns-clause-alone g c = λ a.
    let m = g.H.Holder in
    let t = g.met.H.Holder in
    let h0 = c.args.h.now in
    let h1 = c.judged_held-answer.new.h in
    let j = c.judged_held-answer.ensures in
    probe_told (mesh_alone (m.opening h0) (m.entries h0)) c.args.chunk c.args.op c.judged_held-answer.result
    (λ none.
    let p = j.passes none in
    failing_from (m.opening h1) (m.opening h0) (m.entries h1) (m.entries h0) c.args.chunk c.args.op None (t.same_opening h0 h1 j.same) j.kept.0
    (failing_alone (m.opening h1) (m.pairs h1) (m.allowance h1) (m.entries h1) c.args.chunk c.args.op None (t.alone_knows h1 (t.same_alone h0 h1 j.same a)) p.0.first p.0.second p.2))
    (j.alone a)
