use Rattle.std.proofs.Common.{◌≡◌, ℕ, ◌<◌, ◌≤◌, true, false, map}
use Rattle.std.specs.Prelude.{vec_capacity, slice_index_or}
use Rattle.std.specs.Slots.{slots_items, slots_filled, slots_len}
use Rattle.pf_locks.specs.Closes.{shown_copy, copies_under, list_at}
use Rattle.pf_locks.proofs.closing.take_all.Given as goal

abbrev pub invariant-loop-n : goal.invariant-loop-n
invariant-loop-n l =
    (slots_items l.closed.slots ≡ slots_items l.initial.closed.slots)
    × (slots_len l.closed.slots ≡ slots_len l.initial.closed.slots)
    × ((k : ℕ) → k < l.n → slice_index_or (slots_filled l.closed.slots) k false ≡ false)
    × ((k : ℕ) → l.n ≤ k → k < l.names → slice_index_or (slots_filled l.closed.slots) k false ≡ true)
    × (map shown_copy l.list.items ≡ copies_under (list_at (slots_items l.initial.closed.slots)) l.n)
    × (vec_capacity l.list ≡ vec_capacity l.initial.list)
