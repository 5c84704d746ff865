use Rattle.std.proofs.Common.{◌≡◌, ℕ, ◌<◌, ◌≤◌, ◌+◌, ◌-◌, List, [], ◌∷◌, ◌++◌, Bool, true, false, not, ◌&&◌, refl, sym, ap, ◌∙◌, set, length, take, drop, subst, suc, arith, rules}
use Rattle.std.specs.Prelude.{IfOk}
use Rattle.pf_core_model.specs.declared.event.Event.{Event}
use Rattle.pf_core.specs.Shown.{IsAct}
use Rattle.pf_core.proofs.events.act.Goals as goal

pub returns-in-Split-clause-took : goal.returns-in-Split-clause-took
returns-in-Split-clause-took c = subst (λ (e : Event). IsAct e c.args.s.now c.split.result c.split.new.s) (sym c.in-Split.is) c.split.ensures

pub returns-in-Push-clause-took : goal.returns-in-Push-clause-took
returns-in-Push-clause-took c = subst (λ (e : Event). IfOk c.push.result (λ v. IsAct e c.args.s.now v c.push.new.s)) (sym c.in-Push.is) c.push.ensures.took

pub returns-in-Join-clause-took : goal.returns-in-Join-clause-took
returns-in-Join-clause-took c = subst (λ (e : Event). IsAct e c.args.s.now c.join.result c.join.new.s) (sym c.in-Join.is) c.join.ensures
