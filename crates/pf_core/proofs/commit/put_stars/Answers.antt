use Rattle.std.proofs.Common.{◌≡◌, ℕ, ◌<◌, ◌≤◌, ◌+◌, ◌-◌, List, [], ◌∷◌, ◌++◌, Bool, true, false, not, ◌&&◌, refl, sym, ap, ◌∙◌, set, length, take, drop, subst, suc, arith, rules, add-one, option_to_list}
use Rattle.std.specs.Prelude.{Contains}
use Rattle.std.proofs.lemmas.List.{length-set}
use Rattle.pf_star_model.specs.Lent.{Held}
use Rattle.pf_core.specs.declared.tables.Node.{Node}
use Rattle.pf_core.specs.Making.{starred}
use Rattle.pf_core.proofs.Starring.{starred_last, front_in, last_in}
use Rattle.pf_core.proofs.commit.put_stars.Goals as goal

pub put_star-requires : goal.put_star-requires
put_star-requires c =
    let h : Held = c.in-Some.pair in
    let is : c.stars.left.items ≡ c.pop.new.self.items ++ h ∷ [] = c.pop.ensures.items ∙ ap (λ o. c.pop.new.self.items ++ option_to_list o) c.in-Some.is in
    c.stars.invariant.1 h (subst (λ (l : List Held). Contains l h) (sym is) (last_in h c.pop.new.self.items))

pub stars-preserved : goal.stars-preserved
stars-preserved c =
    let h : Held = c.in-Some.pair in
    let is : c.stars.left.items ≡ c.pop.new.self.items ++ h ∷ [] = c.pop.ensures.items ∙ ap (λ o. c.pop.new.self.items ++ option_to_list o) c.in-Some.is in
    let long : length c.put_star.new.nodes.items ≡ length c.stars.nodes.items = ap length c.put_star.ensures ∙ length-set c.stars.nodes.items h.node _ in (
      ap (starred c.pop.new.self.items) c.put_star.ensures ∙ sym (starred_last c.pop.new.self.items h c.stars.nodes.items) ∙ ap (λ (l : List Held). starred l c.stars.nodes.items) (sym is) ∙ c.stars.invariant.0,
      (λ k i. subst (λ (n : ℕ). k.node < n) (sym long) (c.stars.invariant.1 k (subst (λ (l : List Held). Contains l k) (sym is) (front_in h c.pop.new.self.items k i)))),
    )
