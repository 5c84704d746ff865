use Rattle.std.proofs.Common.{arith}
use Rattle.pf_board_steps.proofs.Steps.{splits_step}
use Rattle.pf_locks.proofs.board.Board.part.Goals as goal

pub split_seat-requires : goal.split_seat-requires
split_seat-requires g c =
    let b = c.args.self.now in
    let s = c.args.seat.now in
    let r = c.requires in
    (r.board, omega arith, rw (r.asked.0, r.asked.1) (splits_step b.table.shared.key s.id c.args.number c.args.share s.me.0 r.spare r.nothing r.rich))
