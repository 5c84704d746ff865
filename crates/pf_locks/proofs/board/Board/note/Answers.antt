use Rattle.pf_locks.proofs.Seating.{seated, noted_shape, noted_counts, knows_as}
use Rattle.pf_locks.proofs.board.Board.note.Goals as goal

pub returns-clause-seat : goal.returns-clause-seat
returns-clause-seat c =
    let b = c.args.self.now in
    let s = c.args.s.now in
    let v = s.seat.me.0 in
    let r = c.requires.seat in
    let told = c.count-count.ensures.told in
    let u = told.2.0 in
    let t = c.count-count.result in
    seated b.table.shared.key _ u s.seat.me.1 told.2.2
    (noted_shape t v u c.args.asked s.seat.me.1 s.kept.items _ told.2.1 r.shape)
    (noted_counts t v u c.args.asked s.number s.workers s.numbers s.allowance s.seen s.entries told.2.1 told.1.0 r.counts)
    (knows_as b.table.shared.key c.count-count.new.seat.me u s.seat.me.1 told.2.2 told.0)
