use Rattle.std.proofs.Common.{[]}
use Rattle.pf_core_model.specs.Moves.{left_of, right_of}
use Rattle.pf_locks.proofs.Seating.{seated}
use Rattle.pf_locks.proofs.Parting.{left_counts, right_counts, left_knows, right_knows, empty_shape}
use Rattle.pf_locks.proofs.board.Board.part_seat.Goals as goal

pub returns-clause-left : goal.returns-clause-left
returns-clause-left c =
    let s = c.args.s.now in
    let v = s.seat.me.0 in
    let r = c.requires.seat in
    let b = c.least_spare-number.result in
    let spare = c.least_spare-number.ensures.1 in
    let o = c.args.self.now.table.shared.key in
    seated o _ (left_of b c.args.share v) s.seat.me.1 c.part-seat.ensures.told.0 r.shape
    (left_counts v s.number s.workers s.numbers s.allowance s.seen s.entries r.counts b spare c.args.share c.put_flag.new.numbers c.requires.rich c.put_flag.ensures)
    (left_knows v s.number s.workers s.numbers s.allowance s.seen s.entries r.counts b spare o c.args.share c.requires.nothing r.knows)

pub returns-clause-right : goal.returns-clause-right
returns-clause-right c =
    let s = c.args.s.now in
    let v = s.seat.me.0 in
    let r = c.requires.seat in
    let b = c.least_spare-number.result in
    let spare = c.least_spare-number.ensures.1 in
    let o = c.args.self.now.table.shared.key in
    seated o _ (right_of b c.args.share v) [] c.part-seat.ensures.told.1
    (empty_shape c.args.kept.items _ c.requires.kept.0 c.requires.kept.1)
    (right_counts v s.number s.workers s.numbers s.allowance s.seen s.entries r.counts b spare c.args.share c.only.result c.args.entries c.least_spare-number.ensures.0 c.only.ensures c.requires.entries.0 c.requires.entries.1)
    (right_knows v s.number s.workers s.numbers s.allowance s.seen s.entries r.counts b spare o c.args.share c.requires.nothing r.knows)
