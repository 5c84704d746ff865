use Rattle.std.proofs.Common.{◌≡◌, ◌≤◌, ℕ, false, rules, arith}
use Rattle.std.specs.Ordering.{is_lt, nat_cmp}
use Rattle.std.proofs.lemmas.Bool.Decides.{nat_tests}
use Rattle.std.proofs.lemmas.List.Sorted.{answers_always, All-permutation}
use Rattle.pf_model.specs.declared.Spoke.{Spoke}
use Rattle.pf_spokes.specs.Spokes.{HasSpots}
use Rattle.pf_sweep.proofs.alone.sort_spokes.Goals as goal

not_less : (a b : ℕ) → is_lt (nat_cmp b a) ≡ false → a ≤ b
not_less a b h = grind (arith, nat_tests)

pub returns-clause-order : goal.returns-clause-order
returns-clause-order c k d l =
    let key : Spoke → ℕ = λ s. s.right in
    not_less _ _ (c.sort_unstable_by_key.ensures.sorted key (answers_always _ _ _ (λ f a r g h. search rules)) k d (omega arith) l)

pub returns-clause-in_range : goal.returns-clause-in_range
returns-clause-in_range c all = All-permutation HasSpots c.args.spokes.now.items c.sort_unstable_by_key.new.self.items c.sort_unstable_by_key.ensures.permutation all
