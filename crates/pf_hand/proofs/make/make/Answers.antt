use Rattle.std.proofs.Common.{◌≡◌, ◌+◌, false, refl, sym, ap, ◌∙◌}
use Rattle.pf_core_model.specs.Cavity.{makes_node}
use Rattle.pf_core_model.specs.Moves.{unborn_by}
use Rattle.pf_board_steps.specs.Plays.{fresh_at}
use Rattle.pf_locks.specs.Lists.{list_in}
use Rattle.pf_locks.specs.Seats.{entry_of}
use Rattle.pf_hand.proofs.Made.{places_held, made_hand, born_view, unborn_view}
use Rattle.pf_hand.proofs.make.make.Goals as goal

pub commit-ticket-requires-clause-live : goal.commit-ticket-requires-clause-live
commit-ticket-requires-clause-live c = (c.requires.hand.before refl).live

pub put_lists-requires-clause-held : goal.put_lists-requires-clause-held
put_lists-requires-clause-held c =
    let b = c.args.board.now in
    let t = c.commit-ticket.result in
    places_held b.table.shared.key c.args.s.now c.commit-ticket.new.s c.args.chunk t (b.first_new + t) c.args.op c.args.ready (ap (λ k. k + t) b.first_is) c.requires.hand c.requires.makes c.commit-ticket.ensures.told c.requires.ready

pub returns-then-makes_one-clause-hand : goal.returns-then-makes_one-clause-hand
returns-then-makes_one-clause-hand c =
    let b = c.args.board.now in
    let t = c.commit-ticket.result in
    let v = c.args.s.now.seat.me.0 in
    let e = entry_of t c.args.chunk c.args.op in
    let view = born_view c.birth.new.s.seat.me.0 c.put_lists.new.s.seat.me.0 c.commit-ticket.new.s.seat.me.0 v e (fresh_at v (entry_of 0 c.args.chunk c.args.op) t) (unborn_by v.first_new e) c.birth.ensures.told c.put_lists.ensures.view c.commit-ticket.ensures.told.view in
    made_hand b.table.shared.key c.args.s.now c.commit-ticket.new.s c.args.chunk t (b.first_new + t) c.args.op c.args.ready (ap (λ k. k + t) b.first_is) c.requires.hand c.requires.makes c.commit-ticket.ensures.told c.requires.ready
    c.spread_puts_due.ensures c.birth.new.s c.birth.ensures.seat view (λ n. ap (λ l. list_in l n) c.birth.ensures.kept ∙ c.put_lists.ensures.lists n)

pub returns-else-makes_one-clause-hand : goal.returns-else-makes_one-clause-hand
returns-else-makes_one-clause-hand c =
    let b = c.args.board.now in
    let t = c.commit-ticket.result in
    let v = c.args.s.now.seat.me.0 in
    let e = entry_of t c.args.chunk c.args.op in
    let none : makes_node c.args.op ≡ false = sym c.makes_one.ensures ∙ c.if-makes_one.false in
    let view = unborn_view c.put_lists.new.s.seat.me.0 c.commit-ticket.new.s.seat.me.0 v e (fresh_at v (entry_of 0 c.args.chunk c.args.op) t) (v.first_new + t) (makes_node c.args.op) c.put_lists.ensures.view c.commit-ticket.ensures.told.view none in
    made_hand b.table.shared.key c.args.s.now c.commit-ticket.new.s c.args.chunk t (b.first_new + t) c.args.op c.args.ready (ap (λ k. k + t) b.first_is) c.requires.hand c.requires.makes c.commit-ticket.ensures.told c.requires.ready
    c.spread_puts_due.ensures c.put_lists.new.s c.put_lists.ensures.seat view c.put_lists.ensures.lists
