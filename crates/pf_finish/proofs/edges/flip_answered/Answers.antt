use Rattle.std.proofs.Common.{refl}
use Rattle.pf_rules.specs.Lengths.{span_value}
use Rattle.pf_finish.proofs.Wishing.{near_alone, flip_wish}
use Rattle.pf_finish.proofs.edges.flip_answered.Goals as goal

pub wish_tried-requires-clause-near : goal.wish_tried-requires-clause-near
wish_tried-requires-clause-near g c =
    let m = g.H.Holder in
    let t = g.met.H.Holder in
    let h0 = c.args.h.now in
    near_alone (m.opening h0) (m.opening h0) (m.pairs h0) (m.allowance h0) (m.entries h0) (span_value c.args.e) c.args.seen.chunk refl (t.alone_knows h0 c.requires.alone) c.requires.seen.edge c.requires.seen.chunk

pub wish_tried-requires-clause-wish : goal.wish_tried-requires-clause-wish
wish_tried-requires-clause-wish g c =
    let m = g.H.Holder in
    let t = g.met.H.Holder in
    let h0 = c.args.h.now in
    flip_wish (m.opening h0) (m.pairs h0) (m.allowance h0) (m.entries h0) (span_value c.args.e) c.args.seen (t.alone_knows h0 c.requires.alone) c.requires.sorted c.requires.seen
