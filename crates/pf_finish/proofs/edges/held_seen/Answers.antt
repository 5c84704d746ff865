use Rattle.std.proofs.Common.{◌≡◌, [], ◌∷◌, sym, ◌∙◌, ap, List}
use Rattle.pf_star_model.specs.Lent.{Held, star_held}
use Rattle.pf_core_model.specs.Core.{Opening}
use Rattle.pf_holder.specs.Facts.{won_pair}
use Rattle.pf_finish.proofs.Sights.{won_sight, no_star_sight}
use Rattle.pf_finish.proofs.Wishing.{knows_from, won_lent}
use Rattle.pf_finish.proofs.edges.held_seen.Goals as goal

pub returns-in-Won-clause-seen : goal.returns-in-Won-clause-seen
returns-in-Won-clause-seen g c =
    let m = g.H.Holder in
    let t = g.met.H.Holder in
    let h0 = c.args.h.now in
    let h1 = c.hold.new.self in
    let e = c.in-Won.ensures in
    let won = e.told.1 in
    let pairs : m.pairs h1 ≡ won_pair c.args.a won.0 ∷ [] = won.1 ∙ ap (λ (l : List Held). won_pair c.args.a won.0 ∷ l) c.requires.nothing in
    let same = t.same_opening h0 h1 e.same in
    won_sight (m.opening h0) (m.pairs h1) (m.allowance h0) (m.entries h0) c.args.a c.args.b won.0 c.star_looked.result
    (knows_from (m.opening h0) (m.opening h1) (m.pairs h1) (m.allowance h0) (m.allowance h1) (m.entries h0) (m.entries h1) same e.kept.1 e.kept.0 (t.alone_knows h1 (t.same_alone h0 h1 e.same c.requires.alone)))
    pairs
    (λ ok banded star. c.star_looked.ensures _ won.0 ok (banded ∙ ap (λ (o : Opening). o.mesh.bands) (sym same)) star ((λ i. e.lends i c.args.a) ∙ ap (λ (l : List Held). star_held l c.args.a) pairs ∙ won_lent c.args.a won.0))

pub returns-in-Dead-clause-seen : goal.returns-in-Dead-clause-seen
returns-in-Dead-clause-seen g c =
    let m = g.H.Holder in
    let h0 = c.args.h.now in
    no_star_sight (m.opening h0) (m.pairs h0) (m.allowance h0) (m.entries h0) c.args.a c.args.b (g.met.H.Holder.alone_knows h0 c.requires.alone) (c.in-Dead.ensures.alone c.requires.alone)

pub returns-in-Never-clause-seen : goal.returns-in-Never-clause-seen
returns-in-Never-clause-seen g c =
    let m = g.H.Holder in
    let h0 = c.args.h.now in
    no_star_sight (m.opening h0) (m.pairs h0) (m.allowance h0) (m.entries h0) c.args.a c.args.b (g.met.H.Holder.alone_knows h0 c.requires.alone) (c.in-Never.ensures.alone c.requires.alone)
