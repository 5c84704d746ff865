use Rattle.board_tests.proofs.Making.{can_make_by}
use Rattle.board_tests.proofs.seats.can_make.Goals as goal

pub returns-in-Whole : goal.returns-in-Whole
returns-in-Whole c = λ e. (let s = c.args.s.now in can_make_by c.args.board.now.table.shared.key s.seat.me.0 s.kept.items c.args.chunk c.args.op c.requires.seat.knows c.requires.lends c.in-Whole.ensures.value (c.passes.ensures e))
