use Rattle.std.proofs.Common.{◌≡◌, ℕ, ◌<◌, ◌≤◌, ◌+◌, ◌-◌, List, [], ◌∷◌, ◌++◌, Bool, true, false, not, ◌&&◌, refl, sym, ap, ◌∙◌, set, length, take, drop, subst, suc, arith, rules}
use Rattle.pf_core.specs.Tables.{is_lead}
use Rattle.pf_core.proofs.Stepping.{stepped_none, all_some}
use Rattle.pf_core.proofs.events.step.Goals as goal

pub returns-then-not-is_actor-clause-took : goal.returns-then-not-is_actor-clause-took
returns-then-not-is_actor-clause-took c = stepped_none c.args.s.now c.args.e ((λ i. is_lead (sym c.deref.ensures.value i) (sym c.actor_of.ensures i)) ∙ sym c.is_actor.ensures ∙ c.if-not-is_actor.true)

pub returns-clause-took : goal.returns-clause-took
returns-clause-took c = all_some c.args.s.now c.act.new.s c.args.e c.act.result ((λ i. is_lead (sym c.deref.ensures.value i) (sym c.actor_of.ensures i)) ∙ sym c.is_actor.ensures ∙ c.if-not-is_actor.false) c.act.ensures.took
