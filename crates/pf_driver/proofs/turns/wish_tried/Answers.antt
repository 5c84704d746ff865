use Rattle.pf_driver.specs.Turns.{HasAnswered}
use Rattle.pf_driver.proofs.Moved.{grown_by, answered_by, on_tried}
use Rattle.pf_driver.proofs.turns.wish_tried.Goals as goal

pub returns-clause-grown : goal.returns-clause-grown
returns-clause-grown g c =
    let m = g.H.Holder in
    let h = c.args.h.now in
    let n = c.attempt-answer.new.h in
    grown_by (m.opening h) c.args.asked.chunk c.args.asked.op (m.gained h n) (m.seen_at h) (m.allowance h) (m.entries h) (m.seen_at n) (m.allowance n) (m.entries n) c.attempt-answer.result c.attempt-answer.ensures.entered c.attempt-answer.ensures.right c.attempt-answer.ensures.below c.attempt-answer.ensures.seen

pub returns-clause-answered : goal.returns-clause-answered
returns-clause-answered g c =
    let m = g.H.Holder in
    let h = c.args.h.now in
    let n = c.attempt-answer.new.h in
    let a = c.attempt-answer.result in
    on_tried a c.wish_answered.result (HasAnswered (m.opening h) c.args.asked (m.seen_at h) (m.gained h n) (m.entries h) (m.entries n)) c.wish_answered.ensures
    (λ k. answered_by (m.opening h) c.args.asked (m.seen_at h) (m.gained h n) (m.allowance h) (m.entries h) (m.allowance n) (m.entries n) a k c.attempt-answer.ensures.right c.attempt-answer.ensures.entered)
