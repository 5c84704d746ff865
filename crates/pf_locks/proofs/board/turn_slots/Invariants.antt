use Rattle.std.proofs.Common.{◌≡◌}
use Rattle.pf_locks.specs.Turned.{rotated}
use Rattle.pf_locks.proofs.board.turn_slots.Given as goal

abbrev pub invariant-loop : goal.invariant-loop
invariant-loop l = (l.seat.table_id ≡ l.initial.seat.table_id) × (l.seat.id ≡ l.initial.seat.id) × (l.seat.me ≡ (l.initial.seat.me.0, rotated l.counter l.initial.seat.me.1))
