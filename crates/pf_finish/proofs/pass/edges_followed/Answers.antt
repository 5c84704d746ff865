use Rattle.std.proofs.Common.{ℕ, subst, get_or, arith}
use Rattle.pf_model.specs.Mesh.{Undivided}
use Rattle.pf_holder.specs.Facts.{mesh_alone}
use Rattle.pf_model.specs.Lengths.{edge_of}
use Rattle.pf_finish.specs.Seen.{IsSettled}
use Rattle.pf_finish.proofs.Steps.{step-then, both-stayed}
use Rattle.pf_finish.proofs.Wishing.{mesh_same}
use Rattle.pf_finish.proofs.Quiet.{each-more}
use Rattle.pf_finish.proofs.pass.edges_followed.Goals as goal

pub returns-in-Some-clause-step : goal.returns-in-Some-clause-step
returns-in-Some-clause-step g c =
    let m = g.H.Holder in
    let t = g.met.H.Holder in
    let h0 = c.args.h.now in
    let h1 = c.found.h in
    let h2 = c.edge_followed.new.h in
    let i = c.found.invariant in
    step-then (m.opening h0) (m.opening h1) (m.allowance h0) (m.entries h0) c.args.end.now (m.allowance h1) (m.entries h1) c.found.end (m.allowance h2) (m.entries h2) c.edge_followed.new.end (t.same_opening h0 h1 i.0) i.3 c.edge_followed.ensures.step

pub found-preserved : goal.found-preserved
found-preserved g c =
    let m = g.H.Holder in
    let t = g.met.H.Holder in
    let h0 = c.args.h.now in
    let h1 = c.found.h in
    let h2 = c.edge_followed.new.h in
    let i = c.found.invariant in
    let e = c.edge_followed.ensures in
    let m0 = mesh_alone (m.opening h0) (m.entries h0) in (
      t.same_then h0 h1 h2 i.0 e.same,
      e.nothing,
      e.lends,
      step-then (m.opening h0) (m.opening h1) (m.allowance h0) (m.entries h0) c.args.end.now (m.allowance h1) (m.entries h1) c.found.end (m.allowance h2) (m.entries h2) c.edge_followed.new.end (t.same_opening h0 h1 i.0) i.3 c.edge_followed.ensures.step,
      λ s.
          let b = both-stayed (m.opening h0) (m.opening h1) (m.allowance h0) (m.entries h0) c.args.end.now (m.allowance h1) (m.entries h1) c.found.end (m.allowance h2) (m.entries h2) c.edge_followed.new.end i.3 e.step s in
          let q = mesh_same (m.opening h0) (m.opening h1) (m.entries h0) (m.entries h1) (t.same_opening h0 h1 i.0) b.2 in
          each-more (λ (x : ℕ). IsSettled m0 (edge_of c.args.n x)) c.args.found.now c.found.x-index (omega arith) (subst (λ (w : Undivided). IsSettled w (edge_of c.args.n (get_or c.args.found.now c.found.x-index 0))) q (e.settled c.in_default.is b.1)) (i.4 b.0),
    )
