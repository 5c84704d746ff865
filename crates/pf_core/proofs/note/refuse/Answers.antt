use Rattle.std.proofs.Common.{◌≡◌, ℕ, ◌<◌, ◌≤◌, ◌+◌, ◌-◌, List, [], ◌∷◌, ◌++◌, Bool, true, false, not, ◌&&◌, refl, sym, ap, ◌∙◌, set, length, take, drop, subst, suc, arith, rules}
use Rattle.std.specs.Prelude.{is_some}
use Rattle.pf_star_model.specs.Judged.{judged}
use Rattle.pf_core.specs.declared.tables.Node.{Node}
use Rattle.pf_core.specs.declared.tables.Seat.{Seat}
use Rattle.pf_core.specs.Tables.{star_seen}
use Rattle.pf_core.specs.Gates.{can_judge_at, IsShownTo}
use Rattle.pf_core.proofs.Noting.{refuse_ignored, refuse_taken}
use Rattle.pf_core.proofs.note.refuse.Goals as goal

pub returns-then-not-is_refused : goal.returns-then-not-is_refused
returns-then-not-is_refused c = refuse_ignored c.args.s.now c.args.a c.args.asked c.is_refused.result
    (λ m shown. c.is_refused.ensures m (subst (λ (p : List Node). IsShownTo p c.deref-2.result.now c.args.a c.args.asked.op m) (sym c.deref.ensures.value) (subst (λ (q : List Seat). IsShownTo c.args.s.now.nodes.items q c.args.a c.args.asked.op m) (sym c.deref-2.ensures.value) shown))
    ∙ (λ i. can_judge_at (c.deref.ensures.value i) (c.deref-2.ensures.value i) c.args.a c.args.asked.chunk c.args.asked.op && is_some (judged (star_seen (c.deref.ensures.value i) (c.deref-2.ensures.value i) c.args.a) (c.deref-3.ensures.value i) c.args.asked.chunk c.args.asked.op)))
    c.if-not-is_refused.true

pub returns : goal.returns
returns c = refuse_taken c.args.s.now c.args.a c.args.asked c.is_refused.result _
    (λ m shown. c.is_refused.ensures m (subst (λ (p : List Node). IsShownTo p c.deref-2.result.now c.args.a c.args.asked.op m) (sym c.deref.ensures.value) (subst (λ (q : List Seat). IsShownTo c.args.s.now.nodes.items q c.args.a c.args.asked.op m) (sym c.deref-2.ensures.value) shown))
    ∙ (λ i. can_judge_at (c.deref.ensures.value i) (c.deref-2.ensures.value i) c.args.a c.args.asked.chunk c.args.asked.op && is_some (judged (star_seen (c.deref.ensures.value i) (c.deref-2.ensures.value i) c.args.a) (c.deref-3.ensures.value i) c.args.asked.chunk c.args.asked.op)))
    c.if-not-is_refused.false (let z = c.len.ensures in omega (arith, c.args.s.now.log.ok))
