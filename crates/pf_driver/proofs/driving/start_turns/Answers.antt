use Rattle.std.proofs.Common.{arith}
use Rattle.pf_driver.proofs.Moved.{grown_then, visited_next}
use Rattle.pf_driver.proofs.driving.start_turns.Goals as goal

pub returns-in-Spent-clause-grown : goal.returns-in-Spent-clause-grown
returns-in-Spent-clause-grown g c =
    let m = g.H.Holder in
    let h0 = c.args.h.now in
    let h1 = c.starts.h in
    let h2 = c.start_turn.new.h in
    grown_then (m.seen_at h0) (m.allowance h0) (m.entries h0) (m.seen_at h1) (m.allowance h1) (m.entries h1) (m.seen_at h2) (m.allowance h2) (m.entries h2) c.starts.invariant.4 c.start_turn.ensures.grown

pub returns-in-Memory-clause-grown : goal.returns-in-Memory-clause-grown
returns-in-Memory-clause-grown g c =
    let m = g.H.Holder in
    let h0 = c.args.h.now in
    let h1 = c.starts.h in
    let h2 = c.start_turn.new.h in
    grown_then (m.seen_at h0) (m.allowance h0) (m.entries h0) (m.seen_at h1) (m.allowance h1) (m.entries h1) (m.seen_at h2) (m.allowance h2) (m.entries h2) c.starts.invariant.4 c.start_turn.ensures.grown

pub starts-preserved : goal.starts-preserved
starts-preserved g c =
    let m = g.H.Holder in
    let t = g.met.H.Holder in
    let h0 = c.args.h.now in
    let h1 = c.starts.h in
    let h2 = c.start_turn.new.h in
    let i = c.starts.invariant in
    let e = c.start_turn.ensures in (
      t.same_then h0 h1 h2 i.0 e.same,
      e.nothing,
      e.lends,
      (let k = i.3 in let l = e.seen in omega (arith, k, l)),
      grown_then (m.seen_at h0) (m.allowance h0) (m.entries h0) (m.seen_at h1) (m.allowance h1) (m.entries h1) (m.seen_at h2) (m.allowance h2) (m.entries h2) i.4 e.grown,
      visited_next c.args.chunks.now (m.opening h0) (m.opening h1) (m.seen_at h0) (m.seen_at h1) (m.gained h0 h1) (m.gained h0 h2) (m.gained h1 h2) (m.entries h0) (m.entries h1) (m.entries h2) c.args.start.now c.starts.k
          (t.same_opening h0 h1 i.0) i.3 (λ x k. t.gained_stays h0 h1 h2 x k e.same) (λ x k. t.gained_since h0 h1 h2 x i.0 k) i.5 c.in-Went.ensures.visited,
    )
