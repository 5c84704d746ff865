use Rattle.std.proofs.Common.{◌≡◌, ℕ, ◌<◌, ◌≤◌, true, false}
use Rattle.std.specs.Prelude.{slice_index_or}
use Rattle.std.specs.Slots.{slots_items, slots_filled, slots_len}
use Rattle.pf_locks.specs.Ends.{sites_at, tris_at, under, kept_at}
use Rattle.pf_locks.proofs.ending.take_nodes.Given as goal

abbrev pub invariant-loop-n : goal.invariant-loop-n
invariant-loop-n l =
    (slots_items l.closed.slots ≡ slots_items l.initial.closed.slots)
    × (slots_len l.closed.slots ≡ slots_len l.initial.closed.slots)
    × ((k : ℕ) → k < l.n → slice_index_or (slots_filled l.closed.slots) k false ≡ false)
    × ((k : ℕ) → l.n ≤ k → k < l.names → slice_index_or (slots_filled l.closed.slots) k false ≡ true)
    × (l.enough ≡ true → l.sites.items ≡ under (λ k. sites_at (kept_at (slots_items l.initial.closed.slots) k)) l.n)
    × (l.enough ≡ true → l.tris.items ≡ under (λ k. tris_at (kept_at (slots_items l.initial.closed.slots) k)) l.n)
