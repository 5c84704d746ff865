use Rattle.std.proofs.Common.{arith}
use Rattle.pf_board_steps.proofs.Steps.{joins_step}
use Rattle.pf_locks.proofs.board.Board.unite.Goals as goal

pub join_seat-requires : goal.join_seat-requires
join_seat-requires c =
    let b = c.args.self.now in
    let s = c.args.seat.now in
    let o = c.args.other in
    let r = c.requires in
    (r.board.0, r.board.1, r.nothing.1, omega arith, joins_step b.table.shared.key s.id s.me.0 o.id o.me.0 r.acts r.nothing.0)
