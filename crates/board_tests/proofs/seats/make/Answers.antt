use Rattle.std.proofs.Common.{◌≡◌, ℕ, ◌+◌, Bool, cond, List, sym, ap, ◌∙◌, subst}
use Rattle.std.specs.Prelude.{Some, None}
use Rattle.pf_core_model.specs.declared.view.View.{View}
use Rattle.pf_locks.specs.declared.kept.Kept.{Kept}
use Rattle.board_tests.specs.Holding.{PaidBy}
use Rattle.board_tests.proofs.Making.{make_paid, born_paid}
use Rattle.board_tests.proofs.seats.make.Goals as goal

pub returns-else-not-keeps-clause-paid : goal.returns-else-not-keeps-clause-paid
returns-else-not-keeps-clause-paid c =
    let b = c.args.board.now in
    let s = c.args.s.now in
    let u = c.put_all.new.s in
    let t = c.commit-ticket.result in
    let named : b.first_new + t ≡ s.seat.me.0.first_new + t = ap (λ (k : ℕ). k + t) (b.first_is ∙ sym c.requires.seat.knows.0.opening.1) in
    subst (λ (l : List Kept). PaidBy c.birth.new.s.seat.me.0 l) (sym c.birth.ensures.kept)
    (born_paid u.seat.me.0 u.kept.items
    (make_paid c.spread_puts_due.ensures b.table.shared.key s c.commit-ticket.new.s u c.args.chunk t (b.first_new + t) c.args.op c.in_ok-ready.ready.items c.requires.seat.knows c.requires.lends (c.can_make.ensures c.if-not-can_make.false) c.commit-ticket.ensures.told c.in_ok-ready.ensures c.put_all.ensures.view named (c.put_all.ensures.lists c.if-not-put_all.false))
    c.birth.new.s.seat.me.0 c.birth.ensures.told)

pub returns-else-makes_one-clause-paid : goal.returns-else-makes_one-clause-paid
returns-else-makes_one-clause-paid c =
    let b = c.args.board.now in
    let s = c.args.s.now in
    let u = c.put_all.new.s in
    let t = c.commit-ticket.result in
    let named : b.first_new + t ≡ s.seat.me.0.first_new + t = ap (λ (k : ℕ). k + t) (b.first_is ∙ sym c.requires.seat.knows.0.opening.1) in
    record {
      clear = ap (λ (x : View). x.unborn) (c.put_all.ensures.view ∙ c.commit-ticket.ensures.told.view) ∙ ap (λ (x : Bool). cond x (Some (s.seat.me.0.first_new + t)) None) (sym c.makes_one.ensures ∙ c.if-makes_one.false);
      due = make_paid c.spread_puts_due.ensures b.table.shared.key s c.commit-ticket.new.s u c.args.chunk t (b.first_new + t) c.args.op c.in_ok-ready.ready.items c.requires.seat.knows c.requires.lends (c.can_make.ensures c.if-not-can_make.false) c.commit-ticket.ensures.told c.in_ok-ready.ensures c.put_all.ensures.view named (c.put_all.ensures.lists c.if-not-put_all.false);
    }
