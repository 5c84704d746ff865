use Rattle.std.proofs.Common.{◌≡◌, ◌<◌, ◌+◌, ◌-◌, ◌∷◌, true, refl, sym, ap, ◌∙◌, set, arith}
use Rattle.std.specs.Prelude.{Option, map}
use Rattle.pf_model.specs.Stars.{Star}
use Rattle.pf_core.specs.Gates.{can_bury}
use Rattle.pf_core.proofs.Returning.{bury_ignored, bury_taken}
use Rattle.pf_core.proofs.back.bury.Goals as goal

pub returns-then-not-is_buriable : goal.returns-then-not-is_buriable
returns-then-not-is_buriable c = bury_ignored c.args.s.now c.args.a c.args.n
    ((λ i. can_bury (sym c.deref.ensures.value i) (sym c.deref-2.ensures.value i) c.args.a c.args.n) ∙ sym c.is_buriable.ensures ∙ c.if-not-is_buriable.true)

pub returns : goal.returns
returns c = bury_taken c.args.s.now _ c.args.a c.args.n
    ((λ i. can_bury (sym c.deref.ensures.value i) (sym c.deref-2.ensures.value i) c.args.a c.args.n) ∙ sym c.is_buriable.ensures ∙ c.if-not-is_buriable.false)
    record { first_new = refl; chunks = refl; bands = refl } refl c.free_node.ensures c.count_absence.ensures
