use Rattle.std.proofs.Common.{◌≡◌, length}
use Rattle.pf_core_model.specs.Core.{mesh_after}
use Rattle.pf_core_model.specs.Seats.{own_log}
use Rattle.pf_locks.specs.Seats.{IsSeat}
use Rattle.pf_locks.specs.Closes.{copies_below, IsButFinds}
use Rattle.pf_locks.proofs.closing.count_all.Given as goal

abbrev pub invariant-loop-n : goal.invariant-loop-n
invariant-loop-n l =
    (l.s.seat.table_id ≡ l.initial.s.seat.table_id) × IsSeat l.board.table.shared.key l.s × IsButFinds l.initial.s.seat.me.0 l.s.seat.me.0
    × (l.many ≡ length (copies_below (mesh_after l.board.table.shared.key (own_log l.initial.s.seat.me.0)) l.n))
