use Rattle.std.proofs.Common.{ℕ, min, length, subst}
use Rattle.pf_driver.specs.Visits.{HasVisited}
use Rattle.pf_driver.proofs.Moved.{grown_then, visited_then, went_any}
use Rattle.pf_driver.proofs.driving.all_turns.Goals as goal

pub returns-in-Went-clause-same : goal.returns-in-Went-clause-same
returns-in-Went-clause-same g c = g.met.H.Holder.same_then c.args.h.now c.start_turns.new.h c.later_turns.new.h c.start_turns.ensures.same c.later_turns.ensures.same

pub returns-in-Went-clause-grown : goal.returns-in-Went-clause-grown
returns-in-Went-clause-grown g c =
    let m = g.H.Holder in
    let h0 = c.args.h.now in
    let h1 = c.start_turns.new.h in
    let h2 = c.later_turns.new.h in
    grown_then (m.seen_at h0) (m.allowance h0) (m.entries h0) (m.seen_at h1) (m.allowance h1) (m.entries h1) (m.seen_at h2) (m.allowance h2) (m.entries h2) c.start_turns.ensures.grown c.later_turns.ensures.grown

pub returns-in-Went-clause-visited : goal.returns-in-Went-clause-visited
returns-in-Went-clause-visited g c =
    let m = g.H.Holder in
    let t = g.met.H.Holder in
    let h0 = c.args.h.now in
    let h1 = c.start_turns.new.h in
    let h2 = c.later_turns.new.h in
    let V = λ (k : ℕ). HasVisited c.args.chunks.now (m.opening h0) (m.seen_at h0) (m.gained h0 h2) (m.entries h0) (m.entries h2) c.args.start.now k in
    went_any c.later_turns.result (V (min c.args.turns (length c.args.start.now))) (subst V c.start_count-count.ensures
    (visited_then c.args.chunks.now (m.opening h0) (m.seen_at h0) (m.gained h0 h1) (m.gained h0 h2) (m.entries h0) (m.seen_at h1) (m.allowance h1) (m.entries h1) (m.seen_at h2) (m.allowance h2) (m.entries h2) c.args.start.now c.start_count-count.result
    (λ x k. t.gained_stays h0 h1 h2 x k c.later_turns.ensures.same) c.in-Went.ensures.visited c.later_turns.ensures.grown))
