use Rattle.std.proofs.Common.{arith}
use Rattle.pf_core_model.specs.Right.{lost, dead, mark}
use Rattle.pf_holder.specs.Facts.{lost_to}
use Rattle.pf_holder.proofs.Held.{end_within}
use Rattle.pf_attempt.proofs.trying.end_held.Goals as goal

pub returns-in-Lost-clause-right : goal.returns-in-Lost-clause-right
returns-in-Lost-clause-right g c =
    let t = g.met.H.Holder in
    let h0 = c.args.h.now in
    let h1 = c.hold.new.self in
    let h2 = c.note-at.new.self in
    let k = c.note-at.ensures.mark in (
      omega (arith, c.in-Lost.ensures.kept.2, c.note-at.ensures.seen.0),
      t.gained_stays h0 h1 h2 (lost_to c.args.n c.in-Lost.holder) c.in-Lost.ensures.told.1 c.note-at.ensures.same,
      (k.it, k.at, t.gained_since h0 h1 h2 (mark k.it) c.in-Lost.ensures.same k.known, λ x s. end_within x c.args.chunk c.args.op c.args.n c.requires.end),
    )

pub returns-in-Dead-clause-right : goal.returns-in-Dead-clause-right
returns-in-Dead-clause-right g c =
    let t = g.met.H.Holder in
    let h0 = c.args.h.now in
    let h1 = c.hold.new.self in
    let h2 = c.note-at-in-Dead.new.self in
    let k = c.note-at-in-Dead.ensures.mark in (
      omega (arith, c.in-Dead.ensures.kept.2, c.note-at-in-Dead.ensures.seen.0),
      c.requires.end,
      t.gained_stays h0 h1 h2 (dead c.args.n) c.in-Dead.ensures.told.1 c.note-at-in-Dead.ensures.same,
      (k.it, k.at, t.gained_since h0 h1 h2 (mark k.it) c.in-Dead.ensures.same k.known, k.gone c.args.n (h0, c.in-Dead.ensures.told.1)),
    )
