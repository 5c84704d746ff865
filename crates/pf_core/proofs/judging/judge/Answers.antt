use Rattle.std.proofs.Common.{◌≡◌, ℕ, ◌<◌, ◌≤◌, ◌+◌, ◌-◌, List, [], ◌∷◌, ◌++◌, Bool, true, false, not, ◌&&◌, refl, sym, ap, ◌∙◌, set, length, take, drop, subst, suc, arith, rules}
use Rattle.pf_model.specs.declared.Op.{Op}
use Rattle.pf_star_model.specs.Judged.{judged}
use Rattle.pf_core.proofs.judging.judge.Goals as goal

pub returns-in-Flip : goal.returns-in-Flip
returns-in-Flip g c = λ m ok shown. c.judge.ensures.value c.args.bands.now ∙ ap (λ (op : Op). judged (g.R.Rings.lent c.args.r.now) c.args.bands.now c.args.chunk op) (sym c.in-Flip.is)
