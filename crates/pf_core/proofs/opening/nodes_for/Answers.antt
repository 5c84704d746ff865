use Rattle.std.proofs.Common.{◌≡◌, ℕ, ◌<◌, ◌≤◌, ◌+◌, ◌-◌, List, [], ◌∷◌, ◌++◌, Bool, true, false, not, ◌&&◌, ◌==◌, nat_lt, refl, sym, ap, ◌∙◌, set, length, take, drop, subst, suc, arith, rules, add-one, append_assoc}
use Rattle.pf_star_model.specs.Lent.{star_held}
use Rattle.pf_core.specs.First.{first_node}
use Rattle.pf_core.proofs.Begins.{mapped_more}
use Rattle.pf_core.proofs.opening.nodes_for.Goals as goal

pub loop-n-preserved : goal.loop-n-preserved
loop-n-preserved c =
    let put : c.push.new.self.items ≡ c.loop-n.list.items ++ c.in_ok-node.node ∷ [] = search rules in
    put ∙ (λ i. c.loop-n.invariant i ++ c.in_ok-node.ensures i ∷ []) ∙ mapped_more (first_node (star_held c.args.set.now) c.args.first_new c.args.chunks) c.loop-n.n
