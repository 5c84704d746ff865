use Rattle.std.proofs.Common.{length, sym, ap, ◌∙◌, subst}
use Rattle.pf_core_model.specs.declared.view.View.{View}
use Rattle.pf_core_model.specs.Core.{nodes_of}
use Rattle.pf_locks.specs.Lists.{list_in}
use Rattle.board_tests.specs.Holding.{PaidBy, is_kept}
use Rattle.board_tests.proofs.Lending.{kept_name}
use Rattle.board_tests.proofs.Giving.{node_held, buried, put_back, back_paid}
use Rattle.board_tests.proofs.seats.give.Goals as goal

pub bury-requires-clause-paid : goal.bury-requires-clause-paid
bury-requires-clause-paid c =
    let s = c.args.s.now in
    let n = c.args.n in
    let held = node_held n s.seat.me.1 (nodes_of s.seat.me.0) s.kept.items _ c.requires.seat.shape (kept_name n s.kept.items (ap (λ l. is_kept l n) (sym c.deref.ensures.value) ∙ sym c.keeps.ensures ∙ c.if-not-keeps.false)) in
    buried c.args.board.now.table.shared.key s.seat.me.0 s.kept.items n c.requires.seat.knows c.requires.paid held (ap (λ l. length (list_in l n)) (sym c.deref-2.ensures.value) ∙ sym c.copies_of.ensures ∙ c.if-copies_of-eq0.true)

pub release-requires-clause-paid : goal.release-requires-clause-paid
release-requires-clause-paid c =
    let s = c.args.s.now in
    let n = c.args.n in
    let held = node_held n s.seat.me.1 (nodes_of s.seat.me.0) s.kept.items _ c.requires.seat.shape (kept_name n s.kept.items (ap (λ l. is_kept l n) (sym c.deref.ensures.value) ∙ sym c.keeps.ensures ∙ c.if-not-keeps.false)) in
    put_back s.seat.me.0 s.kept.items n c.requires.paid held (λ e. c.if-copies_of-eq0.false (c.copies_of.ensures ∙ ap (λ l. length (list_in l n)) c.deref-2.ensures.value ∙ e))

pub returns-then-copies_of-eq0-clause-paid : goal.returns-then-copies_of-eq0-clause-paid
returns-then-copies_of-eq0-clause-paid c =
    let s = c.args.s.now in
    let t = c.bury.new.s in
    subst (λ (u : View). PaidBy u t.kept.items) (sym c.bury.ensures.told) (back_paid c.args.n s.seat.me.0 s.kept.items t.kept.items c.requires.paid c.bury.ensures.kept)

pub returns-else-copies_of-eq0-clause-paid : goal.returns-else-copies_of-eq0-clause-paid
returns-else-copies_of-eq0-clause-paid c =
    let s = c.args.s.now in
    let t = c.release.new.s in
    subst (λ (u : View). PaidBy u t.kept.items) (sym c.release.ensures.told) (back_paid c.args.n s.seat.me.0 s.kept.items t.kept.items c.requires.paid c.release.ensures.kept)
