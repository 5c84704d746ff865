use Rattle.std.proofs.Common.{ℕ, subst}
use Rattle.pf_model.specs.Mesh.{Undivided}
use Rattle.pf_holder.specs.Facts.{mesh_alone}
use Rattle.pf_finish.specs.Covers.{IsSettledAt}
use Rattle.pf_finish.proofs.Steps.{step-then, both-stayed}
use Rattle.pf_finish.proofs.Wishing.{mesh_same}
use Rattle.pf_finish.proofs.Quiet.{name-more}
use Rattle.pf_finish.proofs.pass.new_followed.Goals as goal

pub returns-in-Some-clause-step : goal.returns-in-Some-clause-step
returns-in-Some-clause-step g c =
    let m = g.H.Holder in
    let t = g.met.H.Holder in
    let h0 = c.args.h.now in
    let h1 = c.new.h in
    let h2 = c.node_followed.new.h in
    let i = c.new.invariant in
    step-then (m.opening h0) (m.opening h1) (m.allowance h0) (m.entries h0) c.args.end.now (m.allowance h1) (m.entries h1) c.new.end (m.allowance h2) (m.entries h2) c.node_followed.new.end (t.same_opening h0 h1 i.0) i.3 c.node_followed.ensures.step

pub new-preserved : goal.new-preserved
new-preserved g c =
    let m = g.H.Holder in
    let t = g.met.H.Holder in
    let h0 = c.args.h.now in
    let h1 = c.new.h in
    let h2 = c.node_followed.new.h in
    let i = c.new.invariant in
    let e = c.node_followed.ensures in
    let m0 = mesh_alone (m.opening h0) (m.entries h0) in (
      t.same_then h0 h1 h2 i.0 e.same,
      e.nothing,
      e.lends,
      step-then (m.opening h0) (m.opening h1) (m.allowance h0) (m.entries h0) c.args.end.now (m.allowance h1) (m.entries h1) c.new.end (m.allowance h2) (m.entries h2) c.node_followed.new.end (t.same_opening h0 h1 i.0) i.3 c.node_followed.ensures.step,
      λ s.
          let b = both-stayed (m.opening h0) (m.opening h1) (m.allowance h0) (m.entries h0) c.args.end.now (m.allowance h1) (m.entries h1) c.new.end (m.allowance h2) (m.entries h2) c.node_followed.new.end i.3 e.step s in
          let q = mesh_same (m.opening h0) (m.opening h1) (m.entries h0) (m.entries h1) (t.same_opening h0 h1 i.0) b.2 in
          name-more (λ (n : ℕ). IsSettledAt m0 n) (m.opening h0).mesh.first_new c.new.n (subst (λ (x : Undivided). IsSettledAt x c.new.n) q (e.settled c.in_default.is b.1)) (i.4 b.0),
    )
