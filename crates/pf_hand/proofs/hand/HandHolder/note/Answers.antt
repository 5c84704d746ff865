use Rattle.std.proofs.Common.{refl, ◌∙◌}
use Rattle.std.proofs.lemmas.Grind.{merely}
use Rattle.pf_hand.proofs.Told.{in_gained, note_is, noted_hand, note_marks, note_told}
use Rattle.pf_hand.proofs.hand.HandHolder.note.Goals as goal

pub invariant_of-self : goal.invariant_of-self
invariant_of-self c =
    let h = c.args.self.now in
    record {
      of = c.note.ensures.board ∙ h.of;
      fits = merely (noted_hand h.board.now.table.shared.key h.seat c.note.new.s c.note.result h.changed c.args.asked c.known.ensures c.note.ensures.seat c.note.ensures.told c.note.ensures.kept);
    }

pub returns-clause-same : goal.returns-clause-same
returns-clause-same c =
    let h = c.args.self.now in
    (refl, (note_is h.seat.seat.me.0 c.note.new.s.seat.me.0 c.note.result c.args.asked c.note.ensures.told).later)

pub returns-clause-mark : goal.returns-clause-mark
returns-clause-mark c =
    let h = c.args.self.now in
    note_marks h.seat.seat.me.0 c.note.new.s.seat.me.0 c.note.result c.args.asked _ c.note.ensures.told (λ n f. in_gained n f.1.0 f.0.seat.seat.me.0.dead h.seat.seat.me.0.dead f.1.1 f.1.2)

pub returns-clause-told : goal.returns-clause-told
returns-clause-told c =
    let h = c.args.self.now in
    note_told h.board.now.table.shared.key h.seat.seat.me.0 c.note.new.s.seat.me.0 c.note.result c.args.asked c.known.ensures.seat.knows.0 c.note.ensures.told
