use Rattle.std.proofs.Common.{◌≡◌, ℕ, ◌<◌, List, [], ◌∷◌, ◌++◌, ◌∙◌, ap, sym, subst, length, set, vec_len, option_to_list, arith}
use Rattle.std.specs.Prelude.{Contains, Some}
use Rattle.pf_model.specs.Stars as model
use Rattle.pf_plain.specs.Stars.{star_by, placed}
use Rattle.pf_plain.proofs.Placed.{put_by, one_placed, in_front, at_end}
use Rattle.pf_plain.proofs.stars.place_stars.Goals as goal

pub put_star-requires : goal.put_star-requires
put_star-requires c =
    let s : model.Star = c.in-Some.star in
    let is : c.places.left.items ≡ c.pop.new.self.items ++ s ∷ [] = c.pop.ensures.items ∙ ap (λ o. c.pop.new.self.items ++ option_to_list o) c.in-Some.is in
    subst (λ (k : ℕ). k < vec_len c.places.stars) (sym c.node.ensures) (c.places.invariant.0 s (subst (λ (x : List model.Star). Contains x s) (sym is) (at_end s c.pop.new.self.items)))

pub places-preserved : goal.places-preserved
places-preserved c =
    let s : model.Star = c.in-Some.star in
    let is : c.places.left.items ≡ c.pop.new.self.items ++ s ∷ [] = c.pop.ensures.items ∙ ap (λ o. c.pop.new.self.items ++ option_to_list o) c.in-Some.is in
    let e = c.put_star.ensures.len in
    let low : s.node < vec_len c.places.stars = c.places.invariant.0 s (subst (λ (x : List model.Star). Contains x s) (sym is) (at_end s c.pop.new.self.items)) in
    let ok = c.places.stars.ok in
    let low' : s.node < length c.places.stars.items = omega (arith, low, ok) in (
      (λ k h. subst (λ (x : ℕ). k.node < x) (sym e) (c.places.invariant.0 k (subst (λ (x : List model.Star). Contains x k) (sym is) (in_front s c.pop.new.self.items k h)))),
      (λ n. one_placed c.places.left.items c.pop.new.self.items s (star_by c.places.stars.items) (star_by c.put_star.new.stars.items) (placed c.args.list.items (star_by c.args.stars.now.items)) is (λ m. (λ i. star_by (c.put_star.ensures.put i) m) ∙ (λ i. star_by (set c.places.stars.items (c.node.ensures i) (Some s)) m) ∙ put_by c.places.stars.items s.node (Some s) low' m) c.places.invariant.1 n),
      e ∙ c.places.invariant.2,
    )
