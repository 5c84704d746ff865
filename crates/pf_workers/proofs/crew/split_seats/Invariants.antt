use Rattle.std.proofs.Common.{◌≡◌, ℕ, ◌+◌, ◌<◌, ◌≤◌, length, slice_index_or}
use Rattle.pf_locks.specs.declared.seat.BoardSeat.{BoardSeat}
use Rattle.pf_workers.specs.Crew.{IsFirst, IsWorker}
use Rattle.pf_workers.proofs.crew.split_seats.Given as goal

abbrev pub invariant-workers : goal.invariant-workers
invariant-workers l =
    IsFirst l.board.table.shared.table_id l.board.table.shared.key l.budget l.workers l.worker l.first
    × (length l.others.items + 1 ≡ l.worker)
    × (l.worker ≤ l.workers)
    × ((k : ℕ) (d : BoardSeat) → k < length l.others.items → IsWorker l.board.table.shared.table_id l.board.table.shared.key l.budget l.workers (k + 1) (slice_index_or l.others.items k d))
