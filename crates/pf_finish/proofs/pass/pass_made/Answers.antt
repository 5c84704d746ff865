use Rattle.std.proofs.Common.{◌≡◌, ◌<◌, ◌≤◌, ◌∙◌, ℕ, List, false, subst, sym}
use Rattle.pf_model.specs.declared.Entry.{Entry}
use Rattle.pf_core_model.specs.Core.{Opening}
use Rattle.pf_finish.specs.Passing.{has_passing}
use Rattle.pf_finish.specs.Covers.{IsSettledAt}
use Rattle.pf_finish.proofs.Wishing.{mesh_same}
use Rattle.pf_finish.proofs.Quiet.{all-quiet}
use Rattle.pf_model.specs.Mesh.{Undivided}
use Rattle.pf_holder.specs.Facts.{mesh_alone}
use Rattle.pf_finish.proofs.Steps.{step-then, both-stayed, has-stayed}
use Rattle.pf_finish.proofs.pass.pass_made.Goals as goal

pub returns-in-Some-new_followed-clause-step : goal.returns-in-Some-new_followed-clause-step
returns-in-Some-new_followed-clause-step g c =
    let m = g.H.Holder in
    let t = g.met.H.Holder in
    let h0 = c.args.h.now in
    let h1 = c.named_followed.new.h in
    let h2 = c.new_followed.new.h in
    let e = c.named_followed.ensures in
    step-then (m.opening h0) (m.opening h1) (m.allowance h0) (m.entries h0) c.args.end.now (m.allowance h1) (m.entries h1) c.named_followed.new.end (m.allowance h2) (m.entries h2) c.new_followed.new.end (t.same_opening h0 h1 e.same) e.step c.new_followed.ensures.step

pub returns-clause-step : goal.returns-clause-step
returns-clause-step g c =
    let m = g.H.Holder in
    let t = g.met.H.Holder in
    let h0 = c.args.h.now in
    let h1 = c.named_followed.new.h in
    let h2 = c.new_followed.new.h in
    let e = c.named_followed.ensures in
    step-then (m.opening h0) (m.opening h1) (m.allowance h0) (m.entries h0) c.args.end.now (m.allowance h1) (m.entries h1) c.named_followed.new.end (m.allowance h2) (m.entries h2) c.new_followed.new.end (t.same_opening h0 h1 e.same) e.step c.new_followed.ensures.step

pub returns-then-allow-before-clause-finished : goal.returns-then-allow-before-clause-finished
returns-then-allow-before-clause-finished g c =
    let m = g.H.Holder in
    let t = g.met.H.Holder in
    let h0 = c.args.h.now in
    let h1 = c.named_followed.new.h in
    let h2 = c.new_followed.new.h in
    let e = c.named_followed.ensures in
    let f = c.new_followed.ensures in
    let s : m.allowance h2 ≡ m.allowance h0 = sym c.allow.ensures ∙ c.if-allow-before.true ∙ c.allow-before.ensures in
    let same = t.same_opening h0 h1 e.same in
    let b = both-stayed (m.opening h0) (m.opening h1) (m.allowance h0) (m.entries h0) c.args.end.now (m.allowance h1) (m.entries h1) c.named_followed.new.end (m.allowance h2) (m.entries h2) c.new_followed.new.end e.step f.step s in
    let q = mesh_same (m.opening h0) (m.opening h1) (m.entries h0) (m.entries h1) same b.2 in
    let last = has-stayed (m.opening h1) (m.allowance h1) (m.entries h1) (m.allowance h2) (m.entries h2) f.step.answered b.1 in
    subst (λ (es : List Entry). has_passing (mesh_alone (m.opening h0) es) ≡ false) (sym (last ∙ b.2))
    (all-quiet (m.opening h0) (m.pairs h0) (m.allowance h0) (m.entries h0) c.args.live.now c.args.end.now (t.alone_knows h0 c.requires.alone) c.requires.covers (e.settled c.in_default.is b.0)
    (λ n l u. subst (λ (x : Undivided). IsSettledAt x n) q (f.settled c.in_default-new_followed.is b.1 n (subst (λ (o : Opening). o.mesh.first_new ≤ n) (sym same) l) (subst (λ (k : ℕ). n < k) (sym b.3) u))))
