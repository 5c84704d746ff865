use Rattle.std.proofs.Common.{arith}
use Rattle.std.specs.Prelude.{Some}
use Rattle.pf_core_model.specs.Guards.{IsViewJudged}
use Rattle.pf_locks.proofs.Stepping.{fails_noted}
use Rattle.pf_locks.proofs.board.Board.load_refusal.Goals as goal

pub load-requires : goal.load-requires
load-requires g c =
    let b = c.args.self.now in
    let s = c.args.seat.now in
    let r = c.requires in
    let e = g.J.About.entry in
    let why = r.fails.0 in
    let judged : IsViewJudged s.me.0 e.chunk e.op (Some why) = rw (r.asked.0, r.asked.1) r.fails.1 in
    (r.board, omega arith, rw (r.opening, b.names_are) (fails_noted b.table.shared.key b.table.shared.table_id.slots s.id s.me e why r.acts judged))
