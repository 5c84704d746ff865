use Rattle.std.proofs.Common.{◌≡◌, ℕ, ◌<◌, ◌≤◌, ◌+◌, ◌-◌, List, [], ◌∷◌, ◌++◌, Bool, true, false, not, ◌&&◌, ◌==◌, nat_lt, refl, sym, ap, ◌∙◌, set, length, take, drop, subst, suc, arith, rules, add-one, append_assoc}
use Rattle.std.specs.Prelude.{map}
use Rattle.pf_star_model.specs.Lent.{star_held}
use Rattle.pf_core_model.specs.Lists.{counting}
use Rattle.pf_core.specs.First.{first_node}
use Rattle.pf_core.proofs.Begins.{opening_shows}
use Rattle.pf_core.proofs.state.State.new.Goals as goal

pub returns : goal.returns
returns c = opening_shows c.args.m.now.mesh c.args.budget c.args.workers (star_held c.in_ok-set.set) _ c.first_new-first.ensures.conforming c.requires.fresh c.requires.some_worker c.requires.small c.in_ok-set.ensures
    c.first_new-first.ensures.value c.chunks-many.ensures.value (c.in_ok-bands.ensures ∙ c.bands.ensures.value)
    (c.in_ok-nodes.ensures ∙ (λ i. map (first_node (star_held c.in_ok-set.set) (c.first_new-first.ensures.value i) (c.chunks-many.ensures.value i)) (counting 0 (c.first_new-first.ensures.value i + c.args.budget))))
    c.in_ok-seats.ensures c.new-log.ensures.items
