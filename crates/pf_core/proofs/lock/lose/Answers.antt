use Rattle.std.proofs.Common.{◌≡◌, ◌<◌, ◌+◌, ◌-◌, ◌∷◌, true, refl, sym, ap, ◌∙◌, set, arith}
use Rattle.std.specs.Prelude.{Option, map}
use Rattle.pf_model.specs.Stars.{Star}
use Rattle.pf_core.specs.Gates.{other_holder}
use Rattle.pf_core.proofs.Locking.{lost_ignored, lost_taken}
use Rattle.pf_core.proofs.lock.lose.Goals as goal

pub returns-in-Some : goal.returns-in-Some
returns-in-Some c = lost_taken c.args.s.now c.args.a c.args.n c.in-Some.k ((λ i. other_holder (sym c.deref.ensures.value i) c.args.a c.args.n) ∙ sym c.holder_of.ensures ∙ c.in-Some.is)

pub returns-in-None : goal.returns-in-None
returns-in-None c = lost_ignored c.args.s.now c.args.a c.args.n ((λ i. other_holder (sym c.deref.ensures.value i) c.args.a c.args.n) ∙ sym c.holder_of.ensures ∙ c.in-None.is)
