use Rattle.std.proofs.Common.{[], arith}
use Rattle.pf_core_model.specs.Core.{Opening}
use Rattle.pf_core_model.specs.State.{first_view}
use Rattle.pf_core_model.specs.Shown.{CanOpen}
use Rattle.pf_core_model.proofs.Seats.{first_knows}
use Rattle.pf_locks.specs.First.{opening_of}
use Rattle.pf_locks.proofs.Seating.{seated}
use Rattle.pf_locks.proofs.Parting.{empty_shape, first_counts}
use Rattle.pf_locks.proofs.board.Board.new.Goals as goal

pub returns-clause-seat : goal.returns-clause-seat
returns-clause-seat c =
    let o : Opening = opening_of c.args.m.now.mesh c.args.budget c.args.workers in
    let can : CanOpen o = record { conforming = c.first_new-first_new.ensures.conforming; fresh = c.requires.fresh; some_worker = c.requires.some_worker; small = c.requires.small } in
    seated o _ (first_view o) [] c.in_ok-table.ensures.seat.1 (empty_shape c.in-Ok.kept.items _ c.in-Ok.ensures.items c.in-Ok.ensures.capacity)
    (first_counts o c.below.result c.in_ok-entries.entries c.requires.some_worker c.requires.few_workers c.below.ensures c.in_ok-entries.ensures.entries (omega (arith, c.in_ok-entries.ensures.spare)))
    (first_knows o can)
