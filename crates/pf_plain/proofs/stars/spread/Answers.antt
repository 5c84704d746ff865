use Rattle.std.proofs.Common.{◌≡◌, ℕ, ◌<◌, List, [], ◌∷◌, ◌++◌, ◌∙◌, ap, sym, subst, length, vec_len, option_to_list, arith}
use Rattle.std.specs.Prelude.{Contains}
use Rattle.pf_core_model.specs.Sharers.{kept_in}
use Rattle.pf_ghost.specs.declared.ready.Listed.{Listed}
use Rattle.pf_ghost.specs.Spread.{named_node, named_list}
use Rattle.pf_plain.specs.Stars.{star_by, spread_by}
use Rattle.pf_plain.proofs.Placed.{put_by, one_spread, in_front, at_end}
use Rattle.pf_plain.proofs.stars.spread.Goals as goal

pub put_listed-requires : goal.put_listed-requires
put_listed-requires c =
    let l : Listed = c.in-Some.listed in
    let is : c.puts.lists.items ≡ c.pop.new.self.items ++ l ∷ [] = c.pop.ensures.items ∙ ap (λ o. c.pop.new.self.items ++ option_to_list o) c.in-Some.is in
    c.puts.invariant.0 l (subst (λ (x : List Listed). Contains x l) (sym is) (at_end l c.pop.new.self.items))

pub puts-preserved : goal.puts-preserved
puts-preserved c =
    let l : Listed = c.in-Some.listed in
    let is : c.puts.lists.items ≡ c.pop.new.self.items ++ l ∷ [] = c.pop.ensures.items ∙ ap (λ o. c.pop.new.self.items ++ option_to_list o) c.in-Some.is in
    let e = c.put_listed.ensures.len in
    let low : named_node c.args.name l < vec_len c.puts.stars = c.puts.invariant.0 l (subst (λ (x : List Listed). Contains x l) (sym is) (at_end l c.pop.new.self.items)) in
    let ok = c.puts.stars.ok in
    let low' : named_node c.args.name l < length c.puts.stars.items = omega (arith, low, ok) in (
      (λ k h. subst (λ (x : ℕ). named_node c.args.name k < x) (sym e) (c.puts.invariant.0 k (subst (λ (x : List Listed). Contains x k) (sym is) (in_front l c.pop.new.self.items k h)))),
      (λ n. one_spread c.args.name c.puts.lists.items c.pop.new.self.items l (star_by c.puts.stars.items) (star_by c.put_listed.new.stars.items) (spread_by c.args.name c.into_lists-lists.result.items (star_by c.args.stars.now.items)) is (λ m. (λ i. star_by (c.put_listed.ensures.put i) m) ∙ put_by c.puts.stars.items (named_node c.args.name l) (kept_in (named_list c.args.name l)) low' m) c.puts.invariant.1 n),
      e ∙ c.puts.invariant.2,
    )
