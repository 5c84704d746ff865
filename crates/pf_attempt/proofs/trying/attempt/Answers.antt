use Rattle.pf_holder.specs.Facts.{mesh_alone}
use Rattle.pf_attempt.proofs.Alone.{done_where}
use Rattle.std.proofs.Common.{arith}
use Rattle.pf_holder.proofs.Moved.{right_moved, judged_where}
use Rattle.pf_attempt.proofs.trying.attempt.Goals as goal

pub returns-clause-done : goal.returns-clause-done
returns-clause-done g c = λ a r p.
    let m = g.H.Holder in
    let h = c.args.h.now in
    let n = c.tried-answer.new.h in
    done_where (mesh_alone (m.opening h) (m.entries h)) c.args.chunk c.args.op (m.allowance h) (m.entries h) (m.allowance n) (m.entries n) c.tried-answer.result (c.tried-answer.ensures.alone a) c.tried-answer.ensures.entered r p

pub returns-clause-judged : goal.returns-clause-judged
returns-clause-judged g c = λ r e f.
    let m = g.H.Holder in
    let h = c.args.h.now in
    let n = c.give_back.new.self in
    judged_where (m.opening h) c.args.chunk c.args.op (m.seen_at h) (m.gained h n) (m.allowance h) (m.entries h) (m.allowance c.tried-answer.new.h) (m.entries c.tried-answer.new.h) c.tried-answer.result
    (right_moved (m.opening h) c.args.chunk c.args.op (m.seen_at h) (m.seen_at h) (m.gained h c.tried-answer.new.h) (m.gained h n) c.tried-answer.result (omega arith) (λ x k. g.met.H.Holder.gained_stays h c.tried-answer.new.h n x k c.give_back.ensures.same) c.tried-answer.ensures.right)
    c.tried-answer.ensures.entered r e f
