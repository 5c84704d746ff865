use Rattle.std.proofs.Common.{arith}
use Rattle.pf_driver.proofs.Moved.{grown_then}
use Rattle.pf_driver.proofs.driving.later_turns.Goals as goal

pub returns-in-Spent-clause-grown : goal.returns-in-Spent-clause-grown
returns-in-Spent-clause-grown g c =
    let m = g.H.Holder in
    let h0 = c.args.h.now in
    let h1 = c.tasks.h in
    let h2 = c.task_turn.new.h in
    grown_then (m.seen_at h0) (m.allowance h0) (m.entries h0) (m.seen_at h1) (m.allowance h1) (m.entries h1) (m.seen_at h2) (m.allowance h2) (m.entries h2) c.tasks.invariant.4 c.task_turn.ensures.grown

pub returns-in-Memory-clause-grown : goal.returns-in-Memory-clause-grown
returns-in-Memory-clause-grown g c =
    let m = g.H.Holder in
    let h0 = c.args.h.now in
    let h1 = c.tasks.h in
    let h2 = c.task_turn.new.h in
    grown_then (m.seen_at h0) (m.allowance h0) (m.entries h0) (m.seen_at h1) (m.allowance h1) (m.entries h1) (m.seen_at h2) (m.allowance h2) (m.entries h2) c.tasks.invariant.4 c.task_turn.ensures.grown

pub tasks-preserved : goal.tasks-preserved
tasks-preserved g c =
    let m = g.H.Holder in
    let t = g.met.H.Holder in
    let h0 = c.args.h.now in
    let h1 = c.tasks.h in
    let h2 = c.task_turn.new.h in
    let i = c.tasks.invariant in
    let e = c.task_turn.ensures in (
      t.same_then h0 h1 h2 i.0 e.same,
      e.nothing,
      e.lends,
      (let k = i.3 in let l = e.seen in omega (arith, k, l)),
      grown_then (m.seen_at h0) (m.allowance h0) (m.entries h0) (m.seen_at h1) (m.allowance h1) (m.entries h1) (m.seen_at h2) (m.allowance h2) (m.entries h2) i.4 e.grown,
    )
