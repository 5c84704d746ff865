use Rattle.std.proofs.Common.{◌≡◌, ◌+◌, ℕ, refl, sym, ◌∙◌, ap, subst, arith}
use Rattle.pf_core_model.specs.Core.{Opening}
use Rattle.pf_finish.specs.declared.tries.Answered.{Answered}
use Rattle.pf_finish.specs.Done.{IsWorkedOff}
use Rattle.pf_finish.specs.Covers.{IsWorkStep}
use Rattle.pf_finish.proofs.Steps.{next-room, step-done}
use Rattle.pf_finish.proofs.Wishing.{knows_from}
use Rattle.pf_finish.proofs.pass.edge_noted.Goals as goal

pub overflow_add-end : goal.overflow_add-end
overflow_add-end g c =
    let m = g.H.Holder in
    let t = g.met.H.Holder in
    let h0 = c.args.h.now in
    let h1 = c.edge_answered.new.h in
    let same = t.same_opening h0 h1 c.edge_answered.ensures.same in
    let k0 = t.alone_knows h0 c.requires.alone in
    let k1 = knows_from (m.opening h0) (m.opening h1) (m.pairs h1) (m.allowance h1) (m.allowance h1) (m.entries h1) (m.entries h1) same refl refl (t.alone_knows h1 (t.same_alone h0 h1 c.edge_answered.ensures.same c.requires.alone)) in
    let d = subst (λ (x : Answered). IsWorkedOff (m.opening h0) (m.allowance h0) (m.entries h0) (m.allowance h1) (m.entries h1) x) c.in-Some-Done.field-0-is c.in-Some-Done.ensures.answered in
    let first : c.first_new.result ≡ (m.opening h0).mesh.first_new = c.first_new.ensures ∙ ap (λ (o : Opening). o.mesh.first_new) same in
    let r = next-room (m.opening h0) (m.pairs h0) (m.pairs h1) (m.pairs h0) (m.allowance h0) (m.entries h0) (m.allowance h1) (m.entries h1) c.in-Some-Done.ticket c.in-Some-Done.op k0 k1 (t.pairs_agree h0) d in
    omega (arith, r, first)

pub overflow_add-end-in-Some-Done : goal.overflow_add-end-in-Some-Done
overflow_add-end-in-Some-Done g c =
    let m = g.H.Holder in
    let t = g.met.H.Holder in
    let h0 = c.args.h.now in
    let h1 = c.edge_answered.new.h in
    let same = t.same_opening h0 h1 c.edge_answered.ensures.same in
    let k0 = t.alone_knows h0 c.requires.alone in
    let k1 = knows_from (m.opening h0) (m.opening h1) (m.pairs h1) (m.allowance h1) (m.allowance h1) (m.entries h1) (m.entries h1) same refl refl (t.alone_knows h1 (t.same_alone h0 h1 c.edge_answered.ensures.same c.requires.alone)) in
    let d = subst (λ (x : Answered). IsWorkedOff (m.opening h0) (m.allowance h0) (m.entries h0) (m.allowance h1) (m.entries h1) x) c.in-Some-Done.field-0-is c.in-Some-Done.ensures.answered in
    let first : c.first_new.result ≡ (m.opening h0).mesh.first_new = c.first_new.ensures ∙ ap (λ (o : Opening). o.mesh.first_new) same in
    let r = next-room (m.opening h0) (m.pairs h0) (m.pairs h1) (m.pairs h0) (m.allowance h0) (m.entries h0) (m.allowance h1) (m.entries h1) c.in-Some-Done.ticket c.in-Some-Done.op k0 k1 (t.pairs_agree h0) d in
    omega (arith, r, first)

pub returns-in-Some-Done-clause-step : goal.returns-in-Some-Done-clause-step
returns-in-Some-Done-clause-step g c =
    let m = g.H.Holder in
    let t = g.met.H.Holder in
    let h0 = c.args.h.now in
    let h1 = c.edge_answered.new.h in
    let same = t.same_opening h0 h1 c.edge_answered.ensures.same in
    let k0 = t.alone_knows h0 c.requires.alone in
    let k1 = knows_from (m.opening h0) (m.opening h1) (m.pairs h1) (m.allowance h1) (m.allowance h1) (m.entries h1) (m.entries h1) same refl refl (t.alone_knows h1 (t.same_alone h0 h1 c.edge_answered.ensures.same c.requires.alone)) in
    let d = subst (λ (x : Answered). IsWorkedOff (m.opening h0) (m.allowance h0) (m.entries h0) (m.allowance h1) (m.entries h1) x) c.in-Some-Done.field-0-is c.in-Some-Done.ensures.answered in
    let first : c.first_new.result ≡ (m.opening h0).mesh.first_new = c.first_new.ensures ∙ ap (λ (o : Opening). o.mesh.first_new) same in
    subst (λ (k : ℕ). IsWorkStep (m.opening h0) (m.allowance h0) (m.entries h0) c.args.end.now (m.allowance h1) (m.entries h1) (k + c.in-Some-Done.ticket + 1)) (sym first)
    (step-done (m.opening h0) (m.pairs h0) (m.pairs h1) (m.allowance h0) (m.entries h0) c.args.end.now (m.allowance h1) (m.entries h1) c.in-Some-Done.ticket c.in-Some-Done.op k0 k1 d)
