use Rattle.std.proofs.Common.{refl, arith}
use Rattle.pf_core_model.specs.Moves.{born}
use Rattle.pf_locks.proofs.Seating.{seated, counts_as, knows_as}
use Rattle.pf_locks.proofs.board.Board.birth.Goals as goal

pub bear-requires-clause-near : goal.bear-requires-clause-near
bear-requires-clause-near c =
    let z = c.requires.seat.knows.0.near c.args.n c.requires.held in
    omega (arith, c.args.self.now.names_are, z)

pub returns-clause-seat : goal.returns-clause-seat
returns-clause-seat c =
    let b = c.args.self.now in
    let s = c.args.s.now in
    let v = s.seat.me.0 in
    let r = c.requires.seat in
    let told = c.bear.ensures.told in
    seated b.table.shared.key _ (born v) s.seat.me.1 told.1 r.shape
    (counts_as v (born v) s.number s.workers s.numbers s.allowance s.seen s.entries r.counts refl refl refl refl s.seen r.counts.seen (omega arith))
    (knows_as b.table.shared.key c.bear.new.seat.me (born v) s.seat.me.1 told.1 told.0.0)
