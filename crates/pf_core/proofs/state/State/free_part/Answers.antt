use Rattle.std.proofs.Common.{◌≡◌, ℕ, ◌<◌, ◌≤◌, ◌+◌, ◌-◌, List, [], ◌∷◌, ◌++◌, Bool, true, false, not, ◌&&◌, ◌==◌, nat_lt, refl, sym, ap, ◌∙◌, set, length, take, drop, subst, suc, arith, rules, add-one, append_assoc}
use Rattle.pf_core.specs.Part.{part_from}
use Rattle.pf_core.proofs.Shared.{part_is}
use Rattle.pf_core.proofs.state.State.free_part.Goals as goal

pub returns : goal.returns
returns c o s sh = c.in_ok-list.ensures ∙ (λ i. part_from (c.deref.ensures.value i) 0 (length (c.deref.ensures.value i))) ∙ part_is o s c.args.self.now sh
