use Rattle.std.proofs.Common.{rules, ◌≡◌, ℕ, ◌+◌, [], ◌∷◌, ◌++◌, arith}
use Rattle.pf_locks.specs.declared.seat.BoardSeat.{BoardSeat}
use Rattle.pf_workers.specs.Crew.{IsWorker}
use Rattle.pf_workers.proofs.Crewing.{seat_more, grown_by}
use Rattle.pf_workers.proofs.crew.split_seats.Goals as goal

pub workers-preserved : goal.workers-preserved
workers-preserved c =
    let id = c.args.board.now.table.shared.table_id in
    let o = c.args.board.now.table.shared.key in
    let old = c.workers.others.items in
    let new = c.push.new.self.items in
    let seat = c.in_ok-seat.seat in
    let pushed : new ≡ old ++ seat ∷ [] = search rules in
    let below = c.workers-test.true in (
      c.in_ok-seat.ensures.first,
      grown_by old new seat c.workers.worker pushed c.workers.invariant.1,
      omega (arith, below),
      seat_more (λ (k : ℕ) (s : BoardSeat). IsWorker id o c.args.budget c.args.workers k s) old new seat c.workers.worker pushed c.workers.invariant.1 c.workers.invariant.3 c.in_ok-seat.ensures.next,
    )
