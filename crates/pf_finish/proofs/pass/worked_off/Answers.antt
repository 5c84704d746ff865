use Rattle.pf_finish.proofs.Steps.{step-then, step-still}
use Rattle.pf_finish.proofs.pass.worked_off.Goals as goal

pub returns-in-None-clause-step : goal.returns-in-None-clause-step
returns-in-None-clause-step g c =
    let m = g.H.Holder in
    let t = g.met.H.Holder in
    let h0 = c.args.h.now in
    let h1 = c.turns.h in
    let h2 = c.next_answered.new.h in
    let i = c.turns.invariant in
    step-then (m.opening h0) (m.opening h1) (m.allowance h0) (m.entries h0) c.args.end.now (m.allowance h1) (m.entries h1) c.turns.end (m.allowance h2) (m.entries h2) c.next_answered.new.end (t.same_opening h0 h1 i.0) i.3 c.next_answered.ensures.step

pub returns-in-Some-Spent-clause-step : goal.returns-in-Some-Spent-clause-step
returns-in-Some-Spent-clause-step g c =
    let m = g.H.Holder in
    let t = g.met.H.Holder in
    let h0 = c.args.h.now in
    let h1 = c.turns.h in
    let h2 = c.next_answered.new.h in
    let i = c.turns.invariant in
    step-then (m.opening h0) (m.opening h1) (m.allowance h0) (m.entries h0) c.args.end.now (m.allowance h1) (m.entries h1) c.turns.end (m.allowance h2) (m.entries h2) c.next_answered.new.end (t.same_opening h0 h1 i.0) i.3 c.next_answered.ensures.step

pub returns-in-Some-Memory-clause-step : goal.returns-in-Some-Memory-clause-step
returns-in-Some-Memory-clause-step g c =
    let m = g.H.Holder in
    let t = g.met.H.Holder in
    let h0 = c.args.h.now in
    let h1 = c.turns.h in
    let h2 = c.next_answered.new.h in
    let i = c.turns.invariant in
    step-then (m.opening h0) (m.opening h1) (m.allowance h0) (m.entries h0) c.args.end.now (m.allowance h1) (m.entries h1) c.turns.end (m.allowance h2) (m.entries h2) c.next_answered.new.end (t.same_opening h0 h1 i.0) i.3 c.next_answered.ensures.step

pub returns-then-is_err-clause-step : goal.returns-then-is_err-clause-step
returns-then-is_err-clause-step g c =
    let m = g.H.Holder in
    let t = g.met.H.Holder in
    let h0 = c.args.h.now in
    let h1 = c.turns.h in
    let h2 = c.next_answered.new.h in
    let i = c.turns.invariant in
    let h3 = c.changed_put.new.h in
    let k = c.changed_put.ensures.kept in
    step-still (m.opening h0) (m.allowance h0) (m.entries h0) c.args.end.now (m.allowance h2) (m.entries h2) c.next_answered.new.end (m.allowance h3) (m.entries h3) k.1 k.0
    (step-then (m.opening h0) (m.opening h1) (m.allowance h0) (m.entries h0) c.args.end.now (m.allowance h1) (m.entries h1) c.turns.end (m.allowance h2) (m.entries h2) c.next_answered.new.end (t.same_opening h0 h1 i.0) i.3 c.next_answered.ensures.step)

pub turns-preserved : goal.turns-preserved
turns-preserved g c =
    let m = g.H.Holder in
    let t = g.met.H.Holder in
    let h0 = c.args.h.now in
    let h1 = c.turns.h in
    let h2 = c.next_answered.new.h in
    let i = c.turns.invariant in
    let h3 = c.changed_put.new.h in
    let e = c.changed_put.ensures in
    let k = e.kept in (
      t.same_then h0 h2 h3 (t.same_then h0 h1 h2 i.0 c.next_answered.ensures.same) e.same,
      e.nothing,
      e.lends,
      step-still (m.opening h0) (m.allowance h0) (m.entries h0) c.args.end.now (m.allowance h2) (m.entries h2) c.next_answered.new.end (m.allowance h3) (m.entries h3) k.1 k.0
          (step-then (m.opening h0) (m.opening h1) (m.allowance h0) (m.entries h0) c.args.end.now (m.allowance h1) (m.entries h1) c.turns.end (m.allowance h2) (m.entries h2) c.next_answered.new.end (t.same_opening h0 h1 i.0) i.3 c.next_answered.ensures.step),
    )
