use Rattle.std.proofs.Common.{◌≡◌, ℕ, vec_len}
use Rattle.std.specs.Prelude.{Contains}
use Rattle.pf_core_model.specs.Lists.{In}
use Rattle.pf_core_model.specs.Core.{nodes_of}
use Rattle.pf_ghost.specs.declared.ready.Listed.{Listed}
use Rattle.pf_ghost.specs.Spread.{named_node, spread_at}
use Rattle.pf_locks.specs.Lists.{list_in}
use Rattle.pf_locks.specs.Seats.{IsSeat}
use Rattle.pf_hand.proofs.put.put_lists.Given as goal

abbrev pub invariant-puts : goal.invariant-puts
invariant-puts l =
    (l.s.seat.table_id ≡ l.initial.s.seat.table_id) × IsSeat l.board.table.shared.key l.s × (l.s.seat.me.0 ≡ l.initial.s.seat.me.0)
    × ((k : Listed) → Contains l.lists.items k → In (named_node l.name k) (nodes_of l.initial.s.seat.me.0))
    × ((n : ℕ) → spread_at l.name l.lists.items (list_in l.s.kept.items) n ≡ spread_at l.name l.initial.lists.items (list_in l.initial.s.kept.items) n)

abbrev pub decreases-puts : goal.decreases-puts
decreases-puts l = vec_len l.lists
