use Rattle.std.proofs.Common.{sym, subst}
use Rattle.std.specs.Prelude.{None}
use Rattle.pf_model.specs.declared.Op.{Op}
use Rattle.pf_holder.specs.Facts.{IsJudged, HoldsCavity}
use Rattle.pf_attempt.proofs.Alone.{failing_alone}
use Rattle.pf_attempt.specs.Stages.{CanMake}
use Rattle.pf_attempt.proofs.Normal.{normal_judged, normal_held, normal_made}
use Rattle.pf_attempt.proofs.trying.made.Goals as goal

pub commit-ticket-requires-clause-passes : goal.commit-ticket-requires-clause-passes
commit-ticket-requires-clause-passes g c =
    let m = g.H.Holder in
    let h = c.args.h.now in
    subst (λ (x : Op). IsJudged (m.opening h).mesh.bands (m.pairs h) c.args.chunk x None) (sym c.normal-normal.ensures) (normal_judged (m.opening h).mesh.bands (m.pairs h) c.args.chunk c.args.op c.requires.passes)

pub commit-ticket-requires-clause-cavity : goal.commit-ticket-requires-clause-cavity
commit-ticket-requires-clause-cavity g c =
    let m = g.H.Holder in
    let h = c.args.h.now in
    subst (λ (x : Op). HoldsCavity (m.opening h).mesh.bands (m.pairs h) c.args.chunk x) (sym c.normal-normal.ensures) (normal_held (m.opening h).mesh.bands (m.pairs h) c.args.chunk c.args.op c.requires.cavity)

pub returns-in-Ok-clause-alone : goal.returns-in-Ok-clause-alone
returns-in-Ok-clause-alone g c = λ a.
    let m = g.H.Holder in
    let h = c.args.h.now in
    failing_alone (m.opening h) (m.pairs h) (m.allowance h) (m.entries h) c.args.chunk c.args.op None (g.met.H.Holder.alone_knows h a) c.requires.ends.0 c.requires.ends.1 c.requires.passes

pub readied-requires-clause-can : goal.readied-requires-clause-can
readied-requires-clause-can g c =
    let m = g.H.Holder in
    let h = c.args.h.now in
    subst (λ (x : Op). CanMake (m.opening h).mesh.bands (m.pairs h) x) (sym c.normal-normal.ensures) (normal_made (m.opening h).mesh.bands (m.pairs h) c.args.chunk c.args.op c.requires.passes c.requires.cavity)
