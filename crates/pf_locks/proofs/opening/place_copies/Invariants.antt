use Rattle.std.proofs.Common.{◌≡◌, ℕ, ◌<◌, vec_len}
use Rattle.std.specs.Prelude.{Contains}
use Rattle.pf_model.specs.Stars as model
use Rattle.pf_locks.specs.Closes.{list_at}
use Rattle.pf_locks.specs.First.{placed_lists}
use Rattle.pf_locks.proofs.opening.place_copies.Given as goal

abbrev pub invariant-stars : goal.invariant-stars
invariant-stars l =
    ((s : model.Star) → Contains l.left.items s → s.node < vec_len l.lists)
    × ((n : ℕ) → placed_lists l.chunks l.left.items (list_at l.lists.items) n ≡ placed_lists l.chunks l.initial.left.items (list_at l.initial.lists.items) n)
    × (vec_len l.lists ≡ vec_len l.initial.lists)

abbrev pub decreases-stars : goal.decreases-stars
decreases-stars l = vec_len l.left
