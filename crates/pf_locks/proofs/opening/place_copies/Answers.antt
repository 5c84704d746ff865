use Rattle.std.proofs.Common.{◌≡◌, ℕ, ◌<◌, List, [], ◌∷◌, ◌++◌, ◌∙◌, ap, sym, subst, length, set, vec_len, option_to_list, arith}
use Rattle.std.specs.Prelude.{Contains, Some}
use Rattle.pf_model.specs.Stars as model
use Rattle.pf_core_model.specs.Sharers.{sharers_in}
use Rattle.pf_locks.specs.Closes.{list_at}
use Rattle.pf_locks.specs.First.{placed_lists}
use Rattle.pf_locks.proofs.Opens.{list_put, one_placed, in_front, at_end}
use Rattle.pf_locks.proofs.opening.place_copies.Goals as goal

pub place_list-requires : goal.place_list-requires
place_list-requires c =
    let s : model.Star = c.in-Some.star in
    let is : c.stars.left.items ≡ c.pop.new.self.items ++ s ∷ [] = c.pop.ensures.items ∙ ap (λ o. c.pop.new.self.items ++ option_to_list o) c.in-Some.is in
    subst (λ (k : ℕ). k < vec_len c.stars.lists) (sym c.node-n.ensures) (c.stars.invariant.0 s (subst (λ (x : List model.Star). Contains x s) (sym is) (at_end s c.pop.new.self.items)))

pub stars-preserved : goal.stars-preserved
stars-preserved c =
    let s : model.Star = c.in-Some.star in
    let is : c.stars.left.items ≡ c.pop.new.self.items ++ s ∷ [] = c.pop.ensures.items ∙ ap (λ o. c.pop.new.self.items ++ option_to_list o) c.in-Some.is in
    let e = c.place_list.ensures.len in
    let low : s.node < vec_len c.stars.lists = c.stars.invariant.0 s (subst (λ (x : List model.Star). Contains x s) (sym is) (at_end s c.pop.new.self.items)) in
    let ok = c.stars.lists.ok in
    let low' : s.node < length c.stars.lists.items = omega (arith, low, ok) in (
      (λ k h. subst (λ (x : ℕ). k.node < x) (sym e) (c.stars.invariant.0 k (subst (λ (x : List model.Star). Contains x k) (sym is) (in_front s c.pop.new.self.items k h)))),
      (λ n. one_placed c.args.chunks c.stars.left.items c.pop.new.self.items s (list_at c.stars.lists.items) (list_at c.place_list.new.lists.items) (placed_lists c.args.chunks c.args.stars.items (list_at c.args.lists.now.items)) is
          (λ m. (λ i. list_at (c.place_list.ensures.put i) m) ∙ (λ i. list_at (set c.stars.lists.items (c.node-n.ensures i) (c.in_ok-list.ensures i)) m) ∙ list_put c.stars.lists.items s.node (sharers_in c.args.chunks (Some s)) low' m) c.stars.invariant.1 n),
      e ∙ c.stars.invariant.2,
    )
