use Rattle.std.proofs.Common.{◌≡◌, [], ap, ◌∙◌, arith}
use Rattle.pf_core_model.specs.declared.view.View.{View}
use Rattle.board_tests.proofs.Lending.{free_lends, none_held, spare_there}
use Rattle.board_tests.proofs.seats.split.Goals as goal

pub split_seat-requires-clause-spare : goal.split_seat-requires-clause-spare
split_seat-requires-clause-spare c =
    let s = c.args.s.now in
    let r = c.has_spare.ensures c.if-not-has_spare.false in
    spare_there s.seat.me.0.numbers s.number r.0 c.requires.seat.counts.number (c.requires.seat.counts.set r.0 r.1) r.2

pub returns-clause-made : goal.returns-clause-made
returns-clause-made c =
    let t = c.in_ok-other.other in
    let told = c.in_ok-other.ensures.made in
    (told.0, free_lends c.args.board.now.table.shared.key t told.0 (ap (λ (u : View). u.held) told.1.right) (ap (λ (u : View). u.unborn) told.1.right))

pub returns-clause-lends : goal.returns-clause-lends
returns-clause-lends c =
    let s = c.args.s.now in
    let left = c.in_ok-other.ensures.made.1.left in
    let ok = s.kept.ok in
    let e = c.len.ensures in
    let f = c.if-len-gt0.false in
    let none : s.seat.me.0.held ≡ [] = none_held s.seat.me.1 s.seat.me.0.held s.kept.items _ c.requires.seat.shape (omega (arith, ok, e, f)) in
    free_lends c.args.board.now.table.shared.key c.split_seat.new.s c.in_ok-other.ensures.seat (ap (λ (u : View). u.held) left ∙ none) (ap (λ (u : View). u.unborn) left ∙ c.requires.lends.paid.clear)
