use Rattle.std.proofs.Common.{arith}
use Rattle.pf_locks.proofs.Stepping.{buries_as}
use Rattle.pf_locks.proofs.board.Board.bury_word.Goals as goal

pub store-requires : goal.store-requires
store-requires g c =
    let b = c.args.self.now in
    let s = c.args.seat.now in
    let r = c.requires in
    (r.board, omega arith, rw (r.opening) (buries_as b.table.shared.key b.table.shared.table_id.slots s.id s.me c.args.n r.whole.0 r.clear r.whole.1))
