use Rattle.pf_attempt.proofs.Alone.{tells_from}
use Rattle.pf_holder.proofs.Moved.{right_from}
use Rattle.pf_attempt.proofs.trying.tried.Goals as goal

pub made-requires-clause-ends : goal.made-requires-clause-ends
made-requires-clause-ends g c = let w = (c.judged_held.ensures.passes c.in_default.is).0 in (w.first, w.second)

pub returns-clause-right : goal.returns-clause-right
returns-clause-right g c =
    let m = g.H.Holder in
    let t = g.met.H.Holder in
    let h0 = c.args.h.now in
    let h1 = c.judged_held.new.h in
    let h2 = c.made.new.h in
    let s = c.judged_held.ensures.same in
    right_from (m.opening h1) (m.opening h0) c.args.chunk c.args.op (m.seen_at h1) (m.seen_at h0) (m.gained h1 h2) (m.gained h0 h2) c.made.result (t.same_opening h0 h1 s) c.judged_held.ensures.kept.2 (λ x k. t.gained_since h0 h1 h2 x s k) c.made.ensures.right

pub returns-clause-alone : goal.returns-clause-alone
returns-clause-alone g c = λ a.
    let m = g.H.Holder in
    let t = g.met.H.Holder in
    let h0 = c.args.h.now in
    let h1 = c.judged_held.new.h in
    let s = c.judged_held.ensures.same in
    tells_from (m.opening h1) (m.opening h0) (m.entries h1) (m.entries h0) c.args.chunk c.args.op c.made.result (t.same_opening h0 h1 s) c.judged_held.ensures.kept.0 (c.made.ensures.alone (t.same_alone h0 h1 s a))

pub made-requires-clause-cavity : goal.made-requires-clause-cavity
made-requires-clause-cavity g c = (c.judged_held.ensures.passes c.in_default.is).1
