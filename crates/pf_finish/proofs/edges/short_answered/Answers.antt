use Rattle.std.proofs.Common.{◌∙◌, refl}
use Rattle.pf_model.specs.declared.Op.TheVariants.{Contract}
use Rattle.pf_rules.specs.Lengths.{span_value}
use Rattle.pf_holder.specs.Facts.{mesh_alone}
use Rattle.pf_finish.proofs.Wishing.{not_not, mesh_same, near_alone, short_wish, short_wish_back, fails_from}
use Rattle.pf_finish.proofs.edges.short_answered.Goals as goal

pub wish_tried-requires-clause-near : goal.wish_tried-requires-clause-near
wish_tried-requires-clause-near g c =
    let m = g.H.Holder in
    let t = g.met.H.Holder in
    let h0 = c.args.h.now in
    near_alone (m.opening h0) (m.opening h0) (m.pairs h0) (m.allowance h0) (m.entries h0) (span_value c.args.e) c.args.seen.chunk refl (t.alone_knows h0 c.requires.alone) c.requires.seen.edge c.requires.seen.chunk

pub wish_tried-requires-clause-wish : goal.wish_tried-requires-clause-wish
wish_tried-requires-clause-wish g c =
    let m = g.H.Holder in
    let t = g.met.H.Holder in
    let h0 = c.args.h.now in
    short_wish (m.opening h0) (m.pairs h0) (m.allowance h0) (m.entries h0) (mesh_alone (m.opening h0) (m.entries h0)) (span_value c.args.e) c.args.seen refl (t.alone_knows h0 c.requires.alone) c.requires.sorted c.requires.seen (not_not c.args.seen.short c.if-not-seen.false)

pub wish_tried-requires-2-clause-near : goal.wish_tried-requires-2-clause-near
wish_tried-requires-2-clause-near g c =
    let m = g.H.Holder in
    let t = g.met.H.Holder in
    let h0 = c.args.h.now in
    let h1 = c.wish_tried.new.h in
    near_alone (m.opening h0) (m.opening h1) (m.pairs h0) (m.allowance h0) (m.entries h0) (span_value c.args.e) c.args.seen.chunk (t.same_opening h0 h1 c.wish_tried.ensures.same) (t.alone_knows h0 c.requires.alone) c.requires.seen.edge c.requires.seen.chunk

pub wish_tried-requires-2-clause-wish : goal.wish_tried-requires-2-clause-wish
wish_tried-requires-2-clause-wish g c =
    let m = g.H.Holder in
    let t = g.met.H.Holder in
    let h0 = c.args.h.now in
    let h1 = c.wish_tried.new.h in
    let f = c.wish_tried.ensures.fails c.in_default.is in
    short_wish_back (m.opening h0) (m.pairs h0) (m.allowance h0) (m.entries h0) (mesh_alone (m.opening h1) (m.entries h1)) (span_value c.args.e) c.args.seen
    (mesh_same (m.opening h0) (m.opening h1) (m.entries h0) (m.entries h1) (t.same_opening h0 h1 c.wish_tried.ensures.same) f.0) (t.alone_knows h0 c.requires.alone) c.requires.sorted c.requires.seen (not_not c.args.seen.short c.if-not-seen.false)

pub returns-clause-settled : goal.returns-clause-settled
returns-clause-settled g c = λ none.
    let m = g.H.Holder in
    let t = g.met.H.Holder in
    let h0 = c.args.h.now in
    let h1 = c.wish_tried.new.h in
    let f = c.wish_tried.ensures.fails c.in_default.is in
    let b = c.wish_tried-2.ensures.fails none in
    let m0 = mesh_alone (m.opening h0) (m.entries h0) in
    let m1 = mesh_alone (m.opening h1) (m.entries h1) in
    let e = span_value c.args.e in (
      b.0 ∙ f.0,
      b.1 ∙ f.1,
      λ short. (
        fails_from m0 m0 e c.args.seen (Contract c.args.e.lo c.args.e.hi) refl c.requires.seen f.2,
        fails_from m0 m1 e c.args.seen (Contract c.args.e.hi c.args.e.lo) (mesh_same (m.opening h0) (m.opening h1) (m.entries h0) (m.entries h1) (t.same_opening h0 h1 c.wish_tried.ensures.same) f.0) c.requires.seen b.2,
      ),
    )
