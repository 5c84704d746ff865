use Rattle.std.proofs.Common.{ℕ, sym, subst}
use Rattle.pf_finish.specs.Covers.{Covers}
use Rattle.pf_finish.proofs.Steps.{pass-more, pass-covers, step-after}
use Rattle.pf_finish.proofs.Quiet.{covers-given}
use Rattle.pf_finish.proofs.pass.passes_made.Goals as goal

pub returns-in-Some-pass_made-clause-answered : goal.returns-in-Some-pass_made-clause-answered
returns-in-Some-pass_made-clause-answered g c =
    let m = g.H.Holder in
    let t = g.met.H.Holder in
    let h0 = c.args.h.now in
    let h1 = c.passes.h in
    let h2 = c.pass_made.new.h in
    let i = c.passes.invariant in
    let e = c.pass_made.ensures in
    let q = t.same_opening h0 h1 i.0 in
    pass-more (m.opening h0) (m.opening h1) (m.allowance h0) (m.entries h0) (m.allowance h1) (m.entries h1) c.passes.end (m.allowance h2) (m.entries h2) c.pass_made.new.end q i.3 e.step

pub passes-preserved : goal.passes-preserved
passes-preserved g c =
    let m = g.H.Holder in
    let t = g.met.H.Holder in
    let h0 = c.args.h.now in
    let h1 = c.passes.h in
    let h2 = c.pass_made.new.h in
    let i = c.passes.invariant in
    let e = c.pass_made.ensures in
    let q = t.same_opening h0 h1 i.0 in (
      t.same_then h0 h1 h2 i.0 e.same,
      e.nothing,
      e.lends,
      pass-more (m.opening h0) (m.opening h1) (m.allowance h0) (m.entries h0) (m.allowance h1) (m.entries h1) c.passes.end (m.allowance h2) (m.entries h2) c.pass_made.new.end q i.3 e.step,
      pass-covers (m.opening h0) (m.opening h1) c.args.live.now (m.allowance h1) (m.entries h1) c.passes.end (m.allowance h2) (m.entries h2) c.pass_made.new.end q i.4 e.step,
    )

pub passes-init : goal.passes-init
passes-init g c =
    let m = g.H.Holder in
    let t = g.met.H.Holder in
    let h0 = c.args.h.now in
    let h1 = c.nodes_put.new.h in
    let h2 = c.worked_off.new.h in
    let p = c.nodes_put.ensures in
    let e = c.worked_off.ensures in
    let s = step-after (m.opening h0) (m.opening h1) (m.allowance h0) (m.entries h0) (m.allowance h1) (m.entries h1) c.first_new-end.result (m.allowance h2) (m.entries h2) c.worked_off.new.end (t.same_opening h0 h1 p.same) p.kept.1 p.kept.0 e.step in (
      t.same_then h0 h1 h2 p.same e.same,
      e.nothing,
      e.lends,
      s.answered,
      s.covers c.args.live.now (subst (λ (k : ℕ). Covers (m.opening h0) c.args.live.now (m.entries h0) k) (sym c.first_new-end.ensures) (covers-given (m.opening h0) c.args.live.now (m.entries h0) c.requires.live)),
    )
