use Rattle.std.proofs.Common.{refl}
use Rattle.pf_hand.proofs.Told.{is_before, hand_before}
use Rattle.pf_hand.proofs.Made.{can_make, later_made}
use Rattle.pf_hand.proofs.hand.HandHolder.commit.Goals as goal

pub make-ticket-requires-clause-hand : goal.make-ticket-requires-clause-hand
make-ticket-requires-clause-hand c =
    let h = c.args.self.now in
    let o = h.board.now.table.shared.key in
    hand_before o h.seat h.changed c.known.ensures (is_before o h.seat h.changed c.known.ensures c.requires.lends)

pub make-ticket-requires-clause-makes : goal.make-ticket-requires-clause-makes
make-ticket-requires-clause-makes c =
    let h = c.args.self.now in
    can_make h.board.now.table.shared.key h.seat.seat.me.0 c.args.chunk c.args.op c.known.ensures.seat.knows.0 c.requires.passes c.requires.cavity

pub returns-clause-same : goal.returns-clause-same
returns-clause-same c =
    let h = c.args.self.now in
    (refl, later_made h.seat.seat.me.0 c.make-ticket.new.s.seat.me.0 c.args.chunk c.make-ticket.result c.args.op c.make-ticket.ensures.view)
