use Rattle.std.proofs.Common.{Bool, refl, ap, ◌∙◌}
use Rattle.std.proofs.lemmas.Grind.{merely}
use Rattle.pf_star_model.specs.Lent.{star_held}
use Rattle.pf_hand.specs.Hands.{lent_pairs}
use Rattle.pf_hand.proofs.Told.{is_before, tried_hand, tried_later, tried_tells, tried_near, tried_alone}
use Rattle.pf_hand.proofs.hand.HandHolder.hold.Goals as goal

pub invariant_of-self : goal.invariant_of-self
invariant_of-self c =
    let h = c.args.self.now in
    let o = h.board.now.table.shared.key in
    record {
      of = c.try_lock.ensures.board ∙ h.of;
      fits = merely (tried_hand o h.seat c.try_lock.new.s c.args.n h.changed c.try_lock.result c.known.ensures (is_before o h.seat h.changed c.known.ensures c.requires.lends) c.requires.away c.requires.room c.try_lock.ensures.seat c.try_lock.ensures.told);
    }

pub returns-clause-same : goal.returns-clause-same
returns-clause-same c =
    let h = c.args.self.now in
    (refl, tried_later h.board.now.table.shared.key h.seat c.try_lock.new.s c.args.n c.try_lock.result c.try_lock.ensures.told)

pub returns-clause-told : goal.returns-clause-told
returns-clause-told c =
    let h = c.args.self.now in
    tried_tells h.board.now.table.shared.key h.seat c.try_lock.new.s c.args.n c.try_lock.result c.known.ensures.seat.counts.number c.try_lock.ensures.told

pub returns-clause-lends : goal.returns-clause-lends
returns-clause-lends c =
    let h = c.args.self.now in
    ap (λ (b : Bool). star_held (lent_pairs b c.try_lock.new.s.seat.me.0.held)) (is_before h.board.now.table.shared.key h.seat h.changed c.known.ensures c.requires.lends)

pub returns-clause-near : goal.returns-clause-near
returns-clause-near c =
    let h = c.args.self.now in
    tried_near h.board.now.table.shared.key h.seat c.try_lock.new.s c.args.n h.changed c.try_lock.result c.requires.lends c.try_lock.ensures.told

pub returns-clause-alone : goal.returns-clause-alone
returns-clause-alone c =
    let h = c.args.self.now in
    λ a. tried_alone h.board.now.table.shared.key h.seat c.try_lock.new.s c.args.n c.try_lock.result c.known.ensures.seat a c.try_lock.ensures.told (c.try_lock.ensures.alone a)
