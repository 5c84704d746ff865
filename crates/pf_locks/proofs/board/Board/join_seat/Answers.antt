use Rattle.std.proofs.Common.{◌≤◌, ℕ, ◌++◌, sym, ap, ◌∙◌, subst, arith}
use Rattle.pf_entries.specs.Maps.{AreDisjoint, map_of}
use Rattle.pf_core_model.specs.declared.view.View.{View}
use Rattle.pf_core_model.specs.Lists.{times}
use Rattle.pf_core_model.specs.Moves.{both_of}
use Rattle.pf_core_model.specs.Core.{tickets_of}
use Rattle.pf_core_model.specs.Seats.{Knows}
use Rattle.pf_locks.proofs.Seating.{seated}
use Rattle.pf_locks.proofs.Parting.{are_disjoint, joined_counts}
use Rattle.pf_locks.proofs.board.Board.join_seat.Goals as goal

pub join-requires : goal.join-requires
join-requires c =
    let v = c.args.s.now.seat.me.0 in
    let u = c.args.other.seat.me.0 in
    let told = c.look.ensures.told.1 in
    let once : (t : ℕ) → times t (tickets_of (both_of v u)) ≤ 1 = subst (λ (w : View). (t : ℕ) → times t (tickets_of w) ≤ 1) (ap (λ m. m.0) c.unite.ensures.told) told.1 in
    subst (λ m. AreDisjoint m c.args.other.entries.entries) (sym c.requires.seat.counts.entries)
    (subst (λ m. AreDisjoint (map_of v.entries) m) (sym c.requires.second.counts.entries) (are_disjoint v.entries u.entries once))

pub returns-then-s-seen-clause-seat : goal.returns-then-s-seen-clause-seat
returns-then-s-seen-clause-seat c =
    let o = c.args.self.now.table.shared.key in
    let s = c.args.s.now in
    let t = c.args.other in
    let v = s.seat.me.0 in
    let u = t.seat.me.0 in
    let r = c.requires.seat in
    let q = c.requires.second in
    let told = c.look.ensures.told.1 in
    let me = told.4 ∙ c.unite.ensures.told in
    let numbers : (k : ℕ) → times k (v.numbers ++ u.numbers) ≤ 1 = subst (λ (w : View). (k : ℕ) → times k w.numbers ≤ 1) (ap (λ m. m.0) c.unite.ensures.told) told.2 in
    let a = r.counts.seen in
    let b = q.counts.seen in
    seated o _ (both_of v u) s.seat.me.1 me r.shape
    (joined_counts v u s.number s.workers t.number t.workers s.numbers t.numbers s.allowance s.seen t.allowance t.seen s.entries t.entries r.counts q.counts c.set_too.new.numbers t.seen c.join.new.self
    (q.knows.0.opening.0 ∙ sym r.knows.0.opening.0) c.set_too.ensures numbers (omega (arith, c.if-s-seen.true)) (omega arith) (omega (arith, a, b, c.if-s-seen.true)) c.join.ensures.entries c.join.ensures.spare)
    (subst (λ (w : View). Knows o w) (ap (λ m. m.0) me) told.0.0)

pub returns-clause-seat : goal.returns-clause-seat
returns-clause-seat c =
    let o = c.args.self.now.table.shared.key in
    let s = c.args.s.now in
    let t = c.args.other in
    let v = s.seat.me.0 in
    let u = t.seat.me.0 in
    let r = c.requires.seat in
    let q = c.requires.second in
    let told = c.look.ensures.told.1 in
    let me = told.4 ∙ c.unite.ensures.told in
    let numbers : (k : ℕ) → times k (v.numbers ++ u.numbers) ≤ 1 = subst (λ (w : View). (k : ℕ) → times k w.numbers ≤ 1) (ap (λ m. m.0) c.unite.ensures.told) told.2 in
    let a = r.counts.seen in
    let b = q.counts.seen in
    seated o _ (both_of v u) s.seat.me.1 me r.shape
    (joined_counts v u s.number s.workers t.number t.workers s.numbers t.numbers s.allowance s.seen t.allowance t.seen s.entries t.entries r.counts q.counts c.set_too.new.numbers s.seen c.join.new.self
    (q.knows.0.opening.0 ∙ sym r.knows.0.opening.0) c.set_too.ensures numbers (omega arith) (omega (arith, c.if-s-seen.false)) (omega (arith, a, b, c.if-s-seen.false)) c.join.ensures.entries c.join.ensures.spare)
    (subst (λ (w : View). Knows o w) (ap (λ m. m.0) me) told.0.0)
