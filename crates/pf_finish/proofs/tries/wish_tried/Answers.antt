use Rattle.std.proofs.Common.{◌∙◌, sym, arith}
use Rattle.pf_finish.proofs.Tried.{fails_told, refusal_fails}
use Rattle.pf_finish.proofs.tries.wish_tried.Goals as goal

pub returns-in-Some-clause-fails : goal.returns-in-Some-clause-fails
returns-in-Some-clause-fails g c = λ none.
    let m = g.H.Holder in
    let h = c.args.h.now in
    let e = c.in-Some.ensures in
    (e.kept.0, e.kept.1, refusal_fails (m.opening h) (m.pairs h) c.args.chunk c.args.op (m.allowance h) (m.entries h) c.in-Some.field-0 (g.met.H.Holder.alone_knows h c.requires.alone) (e.alone c.requires.alone) e.refused)

pub returns-clause-fails : goal.returns-clause-fails
returns-clause-fails g c = λ none.
    let m = g.H.Holder in
    let h = c.args.h.now in
    let n = c.attempt-answer.new.h in
    let e = c.attempt-answer.ensures in
    let rich = c.allow.ensures in
    let some = c.if-allow-eq0.false in
    fails_told (m.opening h) (m.pairs h) c.args.chunk c.args.op (m.allowance h) (m.entries h) (m.allowance n) (m.entries n) c.attempt-answer.result (g.met.H.Holder.alone_knows h c.requires.alone) (omega (arith, rich, some)) (e.alone c.requires.alone) e.entered (sym c.answered_by.ensures ∙ none)
