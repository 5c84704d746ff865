use Rattle.pf_rules.specs.Lengths.{span_value}
use Rattle.pf_holder.specs.Facts.{mesh_alone}
use Rattle.pf_finish.proofs.Wishing.{not_not, mesh_same, near_alone, long_wish, end_is_edge}
use Rattle.pf_finish.proofs.edges.long_answered.Goals as goal

pub wish_tried-requires-clause-near : goal.wish_tried-requires-clause-near
wish_tried-requires-clause-near g c =
    let m = g.H.Holder in
    let t = g.met.H.Holder in
    let h0 = c.args.h.now in
    let h1 = c.walk_end-chunk.new.h in
    let e = c.walk_end-chunk.ensures in
    let r = c.walk_end-chunk.result in
    near_alone (m.opening h0) (m.opening h1) (m.pairs h0) (m.allowance h0) (m.entries h0) (span_value r.0) r.1 (t.same_opening h0 h1 e.same) (t.alone_knows h0 c.requires.alone)
    (end_is_edge (mesh_alone (m.opening h0) (m.entries h0)) (span_value c.args.e) (span_value r.0) c.args.seen r.1 c.requires.sorted c.requires.seen (record { sorted = e.sorted; end = e.end; chunk_is = e.chunk })) e.chunk

pub wish_tried-requires-clause-wish : goal.wish_tried-requires-clause-wish
wish_tried-requires-clause-wish g c =
    let m = g.H.Holder in
    let t = g.met.H.Holder in
    let h0 = c.args.h.now in
    let h1 = c.walk_end-chunk.new.h in
    let e = c.walk_end-chunk.ensures in
    let r = c.walk_end-chunk.result in
    long_wish (m.opening h0) (m.pairs h0) (m.allowance h0) (m.entries h0) (mesh_alone (m.opening h1) (m.entries h1)) (span_value c.args.e) (span_value r.0) c.args.seen r.1
    (mesh_same (m.opening h0) (m.opening h1) (m.entries h0) (m.entries h1) (t.same_opening h0 h1 e.same) e.kept.0) (t.alone_knows h0 c.requires.alone) c.requires.sorted c.requires.seen (not_not c.args.seen.long c.if-not-seen.false) (record { sorted = e.sorted; end = e.end; chunk_is = e.chunk })
