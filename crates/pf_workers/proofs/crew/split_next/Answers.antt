use Rattle.std.proofs.Common.{◌≡◌, ◌+◌}
use Rattle.pf_locks.specs.declared.seat.BoardSeat.{BoardSeat}
use Rattle.pf_locks.specs.Seats.{IsSeat, TellsSplit}
use Rattle.pf_workers.specs.Crew.{IsFirst, IsWorker}
use Rattle.pf_workers.proofs.Crewing.{next_spare, first_left, worker_split, on_ok, if_both}
use Rattle.pf_workers.proofs.crew.split_next.Goals as goal

pub split_seat-requires-clause-spare : goal.split_seat-requires-clause-spare
split_seat-requires-clause-spare c = (c.args.worker, next_spare c.args.first.now.seat.me.0.numbers c.args.workers c.args.worker c.requires.worker.1 c.requires.first.numbers)

pub returns-clause-first : goal.returns-clause-first
returns-clause-first c =
    let id = c.args.board.now.table.shared.table_id in
    let o = c.args.board.now.table.shared.key in
    let s = c.args.first.now in
    let t = c.split_seat.new.s in
    let share = c.share_of-share.result in
    on_ok c.split_seat.result (λ (u : BoardSeat). IsSeat o u × TellsSplit share s t u) (IsFirst id o c.args.budget c.args.workers (c.args.worker + 1) t) c.split_seat.ensures.made
    (λ u a. first_left id o c.args.budget c.args.workers c.args.worker share s t u c.requires.worker.0 c.requires.worker.1 c.share_of-share.ensures c.requires.first c.split_seat.ensures.board c.split_seat.ensures.seat a.1)

pub returns-clause-next : goal.returns-clause-next
returns-clause-next c =
    let id = c.args.board.now.table.shared.table_id in
    let o = c.args.board.now.table.shared.key in
    let s = c.args.first.now in
    let t = c.split_seat.new.s in
    let share = c.share_of-share.result in
    if_both c.split_seat.result (λ (u : BoardSeat). IsSeat o u × TellsSplit share s t u) (λ (u : BoardSeat). u.seat.table_id ≡ s.seat.table_id) (λ (u : BoardSeat). IsWorker id o c.args.budget c.args.workers c.args.worker u) c.split_seat.ensures.made c.split_seat.ensures.other
    (λ u a b. worker_split id o c.args.budget c.args.workers c.args.worker share s t u c.requires.worker.0 c.requires.worker.1 c.share_of-share.ensures c.requires.first b a.0 a.1)
