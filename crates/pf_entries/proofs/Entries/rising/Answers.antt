use Rattle.std.proofs.Common.{rules}
use Rattle.std.proofs.lemmas.List.Sorted.{IsNonDecreasingBy-from_sort_by_key}
use Rattle.pf_model.specs.declared.Entry.{Entry}
use Rattle.pf_entries.proofs.Tickets.{rising_are_values, tickets_are_keys}
use Rattle.pf_entries.proofs.Entries.rising.Goals as goal

pub returns-clause-entries : goal.returns-clause-entries
returns-clause-entries c =
    let moved = rw (c.in_ok-copy_all-2.ensures, c.in_ok-copy_all.ensures, c.new-list.ensures.items) at c.sort_unstable_by_key.ensures.permutation in
    rw (← c.self.view_is)
    (rising_are_values _ _ moved c.self.invariant.apart (IsNonDecreasingBy-from_sort_by_key (λ (e : Entry). e.ticket) _ c.sort_unstable_by_key.ensures.sorted (λ a r q k. search rules)))

pub returns-clause-tickets : goal.returns-clause-tickets
returns-clause-tickets c =
    let moved = rw (c.in_ok-copy_all-2.ensures, c.in_ok-copy_all.ensures, c.new-list.ensures.items) at c.sort_unstable_by_key.ensures.permutation in
    rw (← c.self.view_is)
    (tickets_are_keys _ _ moved c.self.invariant.apart (IsNonDecreasingBy-from_sort_by_key (λ (e : Entry). e.ticket) _ c.sort_unstable_by_key.ensures.sorted (λ a r q k. search rules)))
