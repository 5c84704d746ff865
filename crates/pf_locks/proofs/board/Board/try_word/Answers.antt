use Rattle.std.proofs.Common.{arith}
use Rattle.pf_board_steps.proofs.Steps.{tries}
use Rattle.pf_locks.proofs.board.Board.try_word.Goals as goal

pub compare_exchange-requires : goal.compare_exchange-requires
compare_exchange-requires g c =
    let b = c.args.self.now in
    let s = c.args.seat.now in
    let r = c.requires in
    (r.board, omega arith, rw (r.opening, r.number) (tries b.table.shared.key b.table.shared.table_id.slots s.id s.me c.args.n r.acts r.clear (omega (arith, b.names_are, r.near)) r.away))
