use Rattle.std.proofs.Common.{◌≡◌, ◌<◌, ◌+◌, ◌-◌, ◌∷◌, true, refl, sym, ap, ◌∙◌, set, arith}
use Rattle.std.specs.Prelude.{Option, map}
use Rattle.pf_model.specs.Stars.{Star}
use Rattle.pf_core.specs.Tables.{seat_at, with_allowance}
use Rattle.pf_core.specs.Gates.{can_join}
use Rattle.pf_core.proofs.Numbering.{join_ignored, join_taken, few_sum}
use Rattle.pf_core.proofs.numbers.join.Goals as goal

pub returns-then-not-is_joinable : goal.returns-then-not-is_joinable
returns-then-not-is_joinable c = join_ignored c.args.s.now c.args.a c.args.b ((λ i. can_join (sym c.deref.ensures.value i) c.args.a c.args.b) ∙ sym c.is_joinable.ensures ∙ c.if-not-is_joinable.true)

pub overflow_add-sum : goal.overflow_add-sum
overflow_add-sum c =
    let z = few_sum c.args.s.now c.args.a c.args.b c.requires.sound c.requires.actor ((λ i. can_join (sym c.deref.ensures.value i) c.args.a c.args.b) ∙ sym c.is_joinable.ensures ∙ c.if-not-is_joinable.false) in
    let x : c.allowance_of-own.result ≡ (seat_at c.args.s.now.seats.items c.args.a).allowance = c.allowance_of-own.ensures ∙ (λ i. (seat_at (c.deref-2.ensures.value i) c.args.a).allowance) in
    let y : c.allowance_of-other.result ≡ (seat_at c.args.s.now.seats.items c.args.b).allowance = c.allowance_of-other.ensures ∙ (λ i. (seat_at (c.deref-3.ensures.value i) c.args.b).allowance) in
    omega arith

pub returns : goal.returns
returns c =
    let x : c.allowance_of-own.result ≡ (seat_at c.args.s.now.seats.items c.args.a).allowance = c.allowance_of-own.ensures ∙ (λ i. (seat_at (c.deref-2.ensures.value i) c.args.a).allowance) in
    let y : c.allowance_of-other.result ≡ (seat_at c.args.s.now.seats.items c.args.b).allowance = c.allowance_of-other.ensures ∙ (λ i. (seat_at (c.deref-3.ensures.value i) c.args.b).allowance) in
    join_taken c.args.s.now _ c.args.a c.args.b ((λ i. can_join (sym c.deref.ensures.value i) c.args.a c.args.b) ∙ sym c.is_joinable.ensures ∙ c.if-not-is_joinable.false)
    record { first_new = refl; chunks = refl; bands = refl } refl refl
    (c.set_allowance.ensures ∙ (λ i. set (c.lead_all.ensures i) c.args.a (with_allowance (x i + y i) (seat_at (c.lead_all.ensures i) c.args.a))))
