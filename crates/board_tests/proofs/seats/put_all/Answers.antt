use Rattle.std.proofs.Common.{◌≡◌, List, [], ◌∷◌, ◌++◌, sym, ap, ◌∙◌, option_to_list, arith}
use Rattle.pf_ghost.specs.declared.ready.Listed.{Listed}
use Rattle.pf_ghost.specs.Spread.{spread_at}
use Rattle.pf_locks.specs.Lists.{list_in}
use Rattle.board_tests.proofs.Making.{one_put, no_lists}
use Rattle.board_tests.proofs.seats.put_all.Goals as goal

pub puts-preserved : goal.puts-preserved
puts-preserved c =
    let l : Listed = c.in-Some.listed in
    let is : c.puts.lists.items ≡ c.pop.new.self.items ++ l ∷ [] = c.pop.ensures.items ∙ ap (λ o. c.pop.new.self.items ++ option_to_list o) c.in-Some.is in (
      c.put_listed.ensures.board ∙ c.puts.invariant.0,
      c.put_listed.ensures.seat,
      c.put_listed.ensures.view ∙ c.puts.invariant.2,
      (λ n. one_put c.args.name c.puts.lists.items c.pop.new.self.items l (list_in c.puts.s.kept.items) (list_in c.put_listed.new.s.kept.items) (λ m. spread_at c.args.name c.args.ready.items (list_in c.args.s.now.kept.items) m) is (c.put_listed.ensures.list c.if-not-put_listed.false) c.puts.invariant.3 n),
    )

pub returns-clause-lists : goal.returns-clause-lists
returns-clause-lists c =
    let none : c.puts.lists.items ≡ [] = (let ok = c.puts.lists.ok in let e = c.in_default.ensures.cases.0 in no_lists c.puts.lists.items (omega (arith, ok, e))) in
    λ yes n.
    ap (λ (x : List Listed). spread_at c.args.name x (list_in c.puts.s.kept.items) n) (sym none)
    ∙ c.puts.invariant.3 n
