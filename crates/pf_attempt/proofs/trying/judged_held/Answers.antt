use Rattle.std.proofs.Common.{ℕ, sym, ap, ◌∙◌, subst, arith}
use Rattle.std.specs.Prelude.{Option, Some, None}
use Rattle.pf_model.specs.Stars.{Star}
use Rattle.pf_attempt.specs.Stages.{judged_first, judged_last}
use Rattle.pf_attempt.proofs.Held.{judged_fails, judged_passes}
use Rattle.pf_attempt.proofs.Parts.{ends_part, last_told}
use Rattle.pf_holder.proofs.Moved.{right_from}
use Rattle.pf_attempt.proofs.Alone.{tells_from}
use Rattle.pf_attempt.proofs.trying.judged_held.Goals as goal

pub refused-requires-clause-fails : goal.refused-requires-clause-fails
refused-requires-clause-fails g c =
    let m = g.H.Holder in
    let h = c.ends_held.new.h in
    let e = c.ends_held.ensures.ends c.in_default.is in
    judged_fails (m.opening h).mesh.bands (m.pairs h) c.args.chunk c.args.op c.in-Some-first_judged.cond e.first e.second
    (sym (c.in-Some-first_judged.ensures ∙ ap (λ (f : ℕ → Option Star). judged_first f (m.opening h).mesh.bands c.args.chunk c.args.op) c.ends_held.ensures.lends))

pub cavity_held-requires-clause-part : goal.cavity_held-requires-clause-part
cavity_held-requires-clause-part g c =
    let m = g.H.Holder in
    let h = c.ends_held.new.h in
    let e = c.ends_held.ensures.ends c.in_default.is in
    ends_part (m.opening h).mesh.bands (m.pairs h) c.args.chunk c.args.op e
    (judged_passes (m.opening h).mesh.bands (m.pairs h) c.args.chunk c.args.op e.first e.second
    (sym (c.in_default-first_judged.ensures ∙ ap (λ (f : ℕ → Option Star). judged_first f (m.opening h).mesh.bands c.args.chunk c.args.op) c.ends_held.ensures.lends)))

pub refused-requires-in-Some-last_judged-clause-fails : goal.refused-requires-in-Some-last_judged-clause-fails
refused-requires-in-Some-last_judged-clause-fails g c =
    let m = g.H.Holder in
    let h = c.cavity_held.new.h in
    let w = c.cavity_held.ensures.whole c.in_default-cavity_held.is in
    last_told (m.opening h).mesh.bands (m.pairs h) c.args.chunk c.args.op (Some c.in-Some-last_judged.cond) w.0 w.1
    (sym (c.in-Some-last_judged.ensures ∙ ap (λ (f : ℕ → Option Star). judged_last f (m.opening h).mesh.bands c.args.chunk c.args.op) c.cavity_held.ensures.lends))

pub returns-clause-passes : goal.returns-clause-passes
returns-clause-passes g c = λ none.
    let m = g.H.Holder in
    let h = c.cavity_held.new.h in
    let w = c.cavity_held.ensures.whole c.in_default-cavity_held.is in (
      w.0,
      w.1,
      last_told (m.opening h).mesh.bands (m.pairs h) c.args.chunk c.args.op None w.0 w.1
          (sym (c.in_default-last_judged.ensures ∙ ap (λ (f : ℕ → Option Star). judged_last f (m.opening h).mesh.bands c.args.chunk c.args.op) c.cavity_held.ensures.lends)),
    )

pub returns-in-Some-last_judged-clause-right : goal.returns-in-Some-last_judged-clause-right
returns-in-Some-last_judged-clause-right g c =
    let m = g.H.Holder in
    let t = g.met.H.Holder in
    let h0 = c.args.h.now in
    let h1 = c.ends_held.new.h in
    let h2 = c.cavity_held.new.h in
    let h3 = c.refused-in-Some-last_judged.new.h in
    let s = t.same_then h0 h1 h2 c.ends_held.ensures.same c.cavity_held.ensures.same in
    right_from (m.opening h2) (m.opening h0) c.args.chunk c.args.op (m.seen_at h2) (m.seen_at h0) (m.gained h2 h3) (m.gained h0 h3) c.refused-in-Some-last_judged.result (t.same_opening h0 h2 s)
    (let k = c.ends_held.ensures.kept.2 in let l = c.cavity_held.ensures.kept.2 in omega (arith, k, l)) (λ x k. t.gained_since h0 h2 h3 x s k) c.refused-in-Some-last_judged.ensures.right

pub returns-in-Some-last_judged-clause-alone : goal.returns-in-Some-last_judged-clause-alone
returns-in-Some-last_judged-clause-alone g c = λ a.
    let m = g.H.Holder in
    let t = g.met.H.Holder in
    let h0 = c.args.h.now in
    let h1 = c.ends_held.new.h in
    let h2 = c.cavity_held.new.h in
    let s = t.same_then h0 h1 h2 c.ends_held.ensures.same c.cavity_held.ensures.same in
    tells_from (m.opening h2) (m.opening h0) (m.entries h2) (m.entries h0) c.args.chunk c.args.op c.refused-in-Some-last_judged.result (t.same_opening h0 h2 s) (c.cavity_held.ensures.kept.0 ∙ c.ends_held.ensures.kept.0)
    (c.refused-in-Some-last_judged.ensures.alone (t.same_alone h0 h2 s a))

pub first_judged-requires-clause-held : goal.first_judged-requires-clause-held
first_judged-requires-clause-held g c = (c.ends_held.ensures.ends c.in_default.is).first
