use Rattle.pf_finish.proofs.Steps.{step-then}
use Rattle.pf_finish.proofs.pass.next_answered.Goals as goal

pub returns-in-Some-edge_noted-clause-step : goal.returns-in-Some-edge_noted-clause-step
returns-in-Some-edge_noted-clause-step g c =
    let m = g.H.Holder in
    let t = g.met.H.Holder in
    let h0 = c.args.h.now in
    let h1 = c.edges.h in
    let h2 = c.edge_noted.new.h in
    let i = c.edges.invariant in
    step-then (m.opening h0) (m.opening h1) (m.allowance h0) (m.entries h0) c.args.end.now (m.allowance h1) (m.entries h1) c.edges.end (m.allowance h2) (m.entries h2) c.edge_noted.new.end (t.same_opening h0 h1 i.0) i.3 c.edge_noted.ensures.step

pub edges-preserved : goal.edges-preserved
edges-preserved g c =
    let m = g.H.Holder in
    let t = g.met.H.Holder in
    let h0 = c.args.h.now in
    let h1 = c.edges.h in
    let h2 = c.edge_noted.new.h in
    let i = c.edges.invariant in
    let e = c.edge_noted.ensures in (
      t.same_then h0 h1 h2 i.0 e.same,
      e.nothing,
      e.lends,
      step-then (m.opening h0) (m.opening h1) (m.allowance h0) (m.entries h0) c.args.end.now (m.allowance h1) (m.entries h1) c.edges.end (m.allowance h2) (m.entries h2) c.edge_noted.new.end (t.same_opening h0 h1 i.0) i.3 e.step,
    )
