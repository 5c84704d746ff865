use Rattle.std.proofs.Common.{◌≡◌, List, [], ◌∷◌, ◌++◌, ◌∙◌, ap, sym, subst, option_to_list}
use Rattle.std.specs.Prelude.{Contains}
use Rattle.pf_ghost.specs.declared.ready.Listed.{Listed}
use Rattle.pf_ghost.specs.Spread.{named_node, spread_at}
use Rattle.pf_ghost.proofs.Spreading.{one_put, in_front}
use Rattle.pf_ghost.proofs.slots.spread.Goals as goal

pub puts-preserved : goal.puts-preserved
puts-preserved g c =
    let l : Listed = c.in-Some.listed in
    let is : c.puts.lists.items ≡ c.pop.new.self.items ++ l ∷ [] = c.pop.ensures.items ∙ ap (λ o. c.pop.new.self.items ++ option_to_list o) c.in-Some.is in (
      (λ k h. c.put_listed.ensures.accepts (named_node c.args.name k) (c.puts.invariant.0 k (subst (λ (x : List Listed). Contains x k) (sym is) (in_front l c.pop.new.self.items k h)))),
      (λ n. one_put c.args.name c.puts.lists.items c.pop.new.self.items l (g.T.Slots.copies c.puts.to) (g.T.Slots.copies c.put_listed.new.to) (λ m. spread_at c.args.name c.into_lists-lists.result.items (g.T.Slots.copies c.args.to.now) m) is c.put_listed.ensures.copies c.puts.invariant.1 n),
      (λ n h. c.put_listed.ensures.accepts n (c.puts.invariant.2 n h)),
      g.met.T.Slots.same_then c.args.to.now c.puts.to c.put_listed.new.to c.puts.invariant.3 c.put_listed.ensures.same,
    )
