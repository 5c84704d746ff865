use Rattle.std.proofs.Common.{sym, ◌∙◌}
use Rattle.board_tests.proofs.Lending.{away, tried}
use Rattle.board_tests.proofs.seats.hold.Goals as goal

pub try_lock-requires-clause-away : goal.try_lock-requires-clause-away
try_lock-requires-clause-away c = (let s = c.args.s.now in away c.args.n s.seat.me.0 s.kept.items c.requires.lends (sym c.lends.ensures ∙ c.if-lends.false))

pub returns-clause-lends : goal.returns-clause-lends
returns-clause-lends c = (let s = c.args.s.now in tried c.args.board.now.table.shared.key c.args.n s c.try_lock.new.s c.try_lock.result c.try_lock.ensures.told (away c.args.n s.seat.me.0 s.kept.items c.requires.lends (sym c.lends.ensures ∙ c.if-lends.false)) c.requires.lends)
