use Rattle.std.proofs.Common.{◌≡◌, ◌∙◌, ℕ, sym, subst}
use Rattle.std.specs.Prelude.{Some}
use Rattle.pf_star_model.proofs.Cavities.{needed_is_least_missing}
use Rattle.pf_cavity.specs.declared.answer.Need.TheVariants.{Hold}
use Rattle.pf_cavity.proofs.next.need.Goals as goal

same : (a b : ℕ) → Hold a ≡ Hold b → a ≡ b
same a b e = cc

pub returns-in-Some-clause-least : goal.returns-in-Some-clause-least
returns-in-Some-clause-least g c m chunk ok shown passes n e =
    (needed_is_least_missing m (g.R.Rings.lent c.args.r.now) chunk c.args.op ok shown passes).1 n (sym c.least_need.ensures ∙ (c.in-Some.is ∙ subst (λ k. Some c.in-Some.node ≡ Some k) (same c.in-Some.node n e) (λ i. Some c.in-Some.node)))

pub returns-in-None-clause-whole : goal.returns-in-None-clause-whole
returns-in-None-clause-whole g c m chunk ok shown passes e = (needed_is_least_missing m (g.R.Rings.lent c.args.r.now) chunk c.args.op ok shown passes).0 (sym c.least_need.ensures ∙ c.in-None.is)
