use Rattle.std.proofs.Common.{◌≡◌, [], ◌∷◌, ◌∙◌, ap, subst, List}
use Rattle.pf_star_model.specs.Lent.{Held, star_held}
use Rattle.pf_core_model.specs.Core.{Opening}
use Rattle.pf_holder.specs.Facts.{won_pair}
use Rattle.pf_finish.specs.Wished.{HasWishes}
use Rattle.pf_finish.proofs.Wishing.{knows_from, won_lent, won_wishes, on_ok}
use Rattle.pf_finish.proofs.wishes.held_wishes.Goals as goal

pub returns-in-Won-clause-found : goal.returns-in-Won-clause-found
returns-in-Won-clause-found g c =
    let m = g.H.Holder in
    let t = g.met.H.Holder in
    let h0 = c.args.h.now in
    let h1 = c.hold.new.self in
    let e = c.in-Won.ensures in
    let won = e.told.1 in
    let pairs : m.pairs h1 ≡ won_pair c.args.n won.0 ∷ [] = won.1 ∙ ap (λ (l : List Held). won_pair c.args.n won.0 ∷ l) c.requires.nothing in
    let same = t.same_opening h0 h1 e.same in
    on_ok c.lent_wishes.result _ _
    (λ wishes s star.
    won_wishes (m.opening h0) (m.pairs h1) (m.allowance h0) (m.entries h0) c.args.n won.0 s (m.opening h0).mesh.bands c.lent_wishes.new.found.items
    (knows_from (m.opening h0) (m.opening h1) (m.pairs h1) (m.allowance h0) (m.allowance h1) (m.entries h0) (m.entries h1) same e.kept.1 e.kept.0 (t.alone_knows h1 (t.same_alone h0 h1 e.same c.requires.alone)))
    pairs star
    (subst (λ (o : Opening). HasWishes o.mesh.bands won.0 c.lent_wishes.new.found.items) same (wishes won.0 ((λ i. e.lends i c.args.n) ∙ ap (λ (l : List Held). star_held l c.args.n) pairs ∙ won_lent c.args.n won.0))))
    c.lent_wishes.ensures
