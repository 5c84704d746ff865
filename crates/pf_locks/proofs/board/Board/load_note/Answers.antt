use Rattle.std.proofs.Common.{arith}
use Rattle.pf_board_steps.proofs.Steps.{notes_step}
use Rattle.pf_locks.proofs.board.Board.load_note.Goals as goal

pub load-requires : goal.load-requires
load-requires g c =
    let b = c.args.self.now in
    let s = c.args.seat.now in
    let r = c.requires in
    (r.board, omega arith, rw (r.opening, b.names_are) (notes_step b.table.shared.key b.table.shared.table_id.slots s.id s.me r.acts))
