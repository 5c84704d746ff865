use Rattle.std.proofs.Common.{◌≡◌, length}
use Rattle.pf_locks.specs.Seats.{IsSeat}
use Rattle.pf_hand.specs.Hands.{AreDue}
use Rattle.pf_hand.proofs.free.free_all.Given as goal

abbrev pub invariant-frees : goal.invariant-frees
invariant-frees l =
    (l.s.seat.table_id ≡ l.initial.s.seat.table_id) × IsSeat l.board.table.shared.key l.s
    × (l.s.seat.me.0 ≡ record l.initial.s.seat.me.0 { held = l.s.seat.me.0.held })
    × AreDue l.s.seat.me.0.chunks l.s.seat.me.0.held l.s.kept.items

abbrev pub decreases-frees : goal.decreases-frees
decreases-frees l = length l.s.kept.items
