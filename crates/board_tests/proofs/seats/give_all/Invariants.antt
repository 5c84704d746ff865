use Rattle.std.proofs.Common.{◌≡◌}
use Rattle.pf_locks.specs.Seats.{IsSeat}
use Rattle.board_tests.specs.Holding.{IsPaid}
use Rattle.board_tests.proofs.seats.give_all.Given as goal

abbrev pub invariant-loop-n : goal.invariant-loop-n
invariant-loop-n l = (l.s.seat.table_id ≡ l.initial.s.seat.table_id) × IsSeat l.board.table.shared.key l.s × IsPaid l.s
