use Rattle.std.proofs.Common.{◌≡◌, refl, ap, ◌∙◌, subst, arith}
use Rattle.pf_core_model.specs.declared.view.View.{View}
use Rattle.pf_star_model.specs.Lent.{Held}
use Rattle.pf_core_model.specs.Moves.{released}
use Rattle.pf_core_model.specs.Seats.{Knows}
use Rattle.pf_core_model.proofs.Lists.{in_map}
use Rattle.pf_locks.specs.Turned.{rotated}
use Rattle.pf_locks.specs.Lists.{slots_of}
use Rattle.pf_locks.proofs.Seating.{seated, kept_name, gone, counts_as, counts_beside}
use Rattle.pf_locks.proofs.board.Board.release.Goals as goal

pub put_back-left-requires-clause-held : goal.put_back-left-requires-clause-held
put_back-left-requires-clause-held c = kept_name c.args.n _ _ _ _ c.requires.seat.shape (in_map (λ (p : Held). p.node) _ c.args.s.now.seat.me.0.held c.requires.paid.1)

pub free_word-requires-clause-near : goal.free_word-requires-clause-near
free_word-requires-clause-near c =
    let z = c.requires.seat.knows.0.near c.args.n (in_map (λ (p : Held). p.node) _ c.args.s.now.seat.me.0.held c.requires.paid.1) in
    omega (arith, c.args.self.now.names_are, z)

pub returns-clause-seat : goal.returns-clause-seat
returns-clause-seat c =
    let b = c.args.self.now in
    let s = c.args.s.now in
    let v = s.seat.me.0 in
    let n = c.args.n in
    let r = c.requires.seat in
    let back = c.put_back-left in
    let told = c.free_word.ensures.told in
    let w = released v n in
    let js = back.new.s.kept.items in
    let view : c.turn_slots.new.seat.me.0 ≡ w = ap (λ m. m.0) c.turn_slots.ensures.2 ∙ ap (λ m. m.0) told.1 ∙ ap (λ (u : View). released u n) back.ensures.view in
    let slots : c.turn_slots.new.seat.me.1 ≡ slots_of js = ap (λ m. m.1) c.turn_slots.ensures.2 ∙ ap (λ m. rotated back.result m.1) told.1 ∙ back.ensures.left in
    let here = in_map (λ (p : Held). p.node) _ v.held c.requires.paid.1 in
    seated b.table.shared.key _ w (slots_of js) (λ i. (view i, slots i))
    (gone n v s.seat.me.1 (slots_of js) s.kept.items js _ _ here r.shape back.ensures.kept.names back.ensures.kept.long back.ensures.kept.room refl)
    (counts_beside w s back.new.s back.ensures.same (counts_as v w s.number s.workers s.numbers s.allowance s.seen s.entries r.counts refl refl refl refl s.seen r.counts.seen (omega arith)))
    (subst (λ (u : View). Knows b.table.shared.key u) (ap (λ m. m.0) told.1 ∙ ap (λ (u : View). released u n) back.ensures.view) told.0.0)
