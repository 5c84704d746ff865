use Rattle.std.proofs.Common.{arith}
use Rattle.pf_board_steps.proofs.Steps.{births_step}
use Rattle.pf_locks.proofs.board.Board.bear.Goals as goal

pub store-requires : goal.store-requires
store-requires g c =
    let b = c.args.self.now in
    let s = c.args.seat.now in
    let r = c.requires in
    (r.board, omega arith, rw (r.opening, r.number) (births_step b.table.shared.key b.table.shared.table_id.slots s.id s.me c.args.n r.unborn))
