use Rattle.std.proofs.Common.{arith}
use Rattle.pf_locks.proofs.Stepping.{draws_for}
use Rattle.pf_locks.proofs.board.Board.draw.Goals as goal

pub fetch_add-requires : goal.fetch_add-requires
fetch_add-requires g c =
    let b = c.args.self.now in
    let s = c.args.seat.now in
    let r = c.requires in
    (r.board, omega arith, rw (r.opening, r.asked, b.names_are) (draws_for b.table.shared.key b.table.shared.table_id.slots s.id s.me record { ticket = 0; chunk = c.args.chunk; op = c.args.op } r.acts r.clear r.rich r.makes))
