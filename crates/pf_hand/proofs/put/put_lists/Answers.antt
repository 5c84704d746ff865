use Rattle.std.proofs.Common.{◌≡◌, List, [], ◌∷◌, ◌++◌, refl, sym, ap, ◌∙◌, subst, option_to_list, arith}
use Rattle.std.specs.Prelude.{Contains}
use Rattle.pf_core_model.specs.declared.view.View.{View}
use Rattle.pf_core_model.specs.Lists.{In}
use Rattle.pf_core_model.specs.Core.{nodes_of}
use Rattle.pf_ghost.specs.declared.ready.Listed.{Listed}
use Rattle.pf_ghost.specs.Spread.{named_node, spread_at}
use Rattle.pf_hand.proofs.Puts.{one_put, in_front, at_end, no_lists}
use Rattle.pf_locks.specs.Lists.{list_in}
use Rattle.pf_hand.proofs.put.put_lists.Goals as goal

pub puts-init : goal.puts-init
puts-init c = (refl, c.requires.seat, refl, (λ k h. c.requires.held k (subst (λ (x : List Listed). Contains x k) c.into_lists-lists.ensures h)), λ n. refl)

pub put_listed-requires-clause-held : goal.put_listed-requires-clause-held
put_listed-requires-clause-held c =
    let l : Listed = c.in-Some.listed in
    let is : c.puts.lists.items ≡ c.pop.new.self.items ++ l ∷ [] = c.pop.ensures.items ∙ ap (λ o. c.pop.new.self.items ++ option_to_list o) c.in-Some.is in
    subst (λ (u : View). In (named_node c.args.name l) (nodes_of u)) (sym c.puts.invariant.2) (c.puts.invariant.3 l (subst (λ (x : List Listed). Contains x l) (sym is) (at_end l c.pop.new.self.items)))

pub puts-preserved : goal.puts-preserved
puts-preserved c =
    let l : Listed = c.in-Some.listed in
    let is : c.puts.lists.items ≡ c.pop.new.self.items ++ l ∷ [] = c.pop.ensures.items ∙ ap (λ o. c.pop.new.self.items ++ option_to_list o) c.in-Some.is in (
      c.put_listed.ensures.board ∙ c.puts.invariant.0,
      c.put_listed.ensures.seat,
      c.put_listed.ensures.view ∙ c.puts.invariant.2,
      (λ k h. c.puts.invariant.3 k (subst (λ (x : List Listed). Contains x k) (sym is) (in_front l c.pop.new.self.items k h))),
      (λ n. one_put c.args.name c.puts.lists.items c.pop.new.self.items l (list_in c.puts.s.kept.items) (list_in c.put_listed.new.s.kept.items) (λ m. spread_at c.args.name c.into_lists-lists.result.items (list_in c.args.s.now.kept.items) m) is c.put_listed.ensures.lists c.puts.invariant.4 n),
    )

pub returns-clause-lists : goal.returns-clause-lists
returns-clause-lists c =
    let none : c.puts.lists.items ≡ [] = (let ok = c.puts.lists.ok in let e = c.in_default.ensures.cases.0 in no_lists c.puts.lists.items (omega (arith, ok, e))) in
    λ n.
    ap (λ (x : List Listed). spread_at c.args.name x (list_in c.puts.s.kept.items) n) (sym none)
    ∙ c.puts.invariant.4 n
    ∙ ap (λ (x : List Listed). spread_at c.args.name x (list_in c.args.s.now.kept.items) n) c.into_lists-lists.ensures
