use Rattle.std.proofs.Common.{◌≡◌, ℕ, vec_len}
use Rattle.pf_ghost.specs.Spread.{spread_at}
use Rattle.pf_locks.specs.Lists.{list_in}
use Rattle.pf_locks.specs.Seats.{IsSeat}
use Rattle.board_tests.proofs.seats.put_all.Given as goal

abbrev pub invariant-puts : goal.invariant-puts
invariant-puts l =
    (l.s.seat.table_id ≡ l.initial.s.seat.table_id)
    × IsSeat l.board.table.shared.key l.s
    × (l.s.seat.me.0 ≡ l.initial.s.seat.me.0)
    × ((n : ℕ) → spread_at l.name l.lists.items (list_in l.s.kept.items) n ≡ spread_at l.name l.initial.lists.items (list_in l.initial.s.kept.items) n)

abbrev pub decreases-puts : goal.decreases-puts
decreases-puts l = vec_len l.lists
