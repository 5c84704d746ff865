use Rattle.std.proofs.Common.{◌≡◌, ◌<◌, ◌+◌, ◌-◌, ◌∷◌, true, refl, sym, ap, ◌∙◌, set, arith}
use Rattle.std.specs.Prelude.{Option, map}
use Rattle.pf_model.specs.Stars.{Star}
use Rattle.pf_core.specs.Gates.{can_birth}
use Rattle.pf_core.proofs.Kept.{actor_of_lead}
use Rattle.pf_core.proofs.Returning.{birth_ignored, birth_taken, birth_near}
use Rattle.pf_core.proofs.back.bear.Goals as goal

pub returns-then-not-is_due : goal.returns-then-not-is_due
returns-then-not-is_due c = birth_ignored c.args.s.now c.args.a c.args.n ((λ i. can_birth (sym c.deref.ensures.value i) c.args.a c.args.n) ∙ sym c.is_due.ensures ∙ c.if-not-is_due.true)

pub bear_node-requires : goal.bear_node-requires
bear_node-requires c =
    let r = actor_of_lead c.args.s.now c.args.a c.requires.sound c.requires.actor in
    birth_near r.opening r.state c.args.s.now c.args.a c.args.n r.place r.shown r.found ((λ i. can_birth (sym c.deref.ensures.value i) c.args.a c.args.n) ∙ sym c.is_due.ensures ∙ c.if-not-is_due.false)

pub returns : goal.returns
returns c = birth_taken c.args.s.now _ c.args.a c.args.n ((λ i. can_birth (sym c.deref.ensures.value i) c.args.a c.args.n) ∙ sym c.is_due.ensures ∙ c.if-not-is_due.false)
    record { first_new = refl; chunks = refl; bands = refl } refl c.bear_node.ensures c.clear_unborn.ensures
