use Rattle.std.proofs.Common.{sym, ◌∙◌}
use Rattle.pf_hand.proofs.Freed.{may_free, may_bury}
use Rattle.pf_hand.proofs.free.free_one.Goals as goal

pub release-requires-clause-paid : goal.release-requires-clause-paid
release-requires-clause-paid c =
    let s = c.args.s.now in
    may_free c.args.board.now.table.shared.key s.seat.me.0 s.kept.items c.args.n c.requires.seat.knows.0 c.requires.due c.requires.held (sym c.requires.live ∙ c.if-live.true)

pub bury-requires-clause-paid : goal.bury-requires-clause-paid
bury-requires-clause-paid c =
    let s = c.args.s.now in
    may_bury c.args.board.now.table.shared.key s.seat.me.0 s.kept.items c.args.n c.requires.seat.knows.0 c.requires.due c.requires.held (sym c.requires.live ∙ c.if-live.false)
