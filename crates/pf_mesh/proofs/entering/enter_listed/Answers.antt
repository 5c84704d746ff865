use Rattle.std.proofs.Common.{◌≡◌, ◌+◌, ◌-◌, ◌*◌, ◌<◌, ◌≤◌, ◌∙◌, ◌∷◌, ℕ, List, drop, get_or, length, sym, subst, ap, arith}
use Rattle.std.proofs.lemmas.List.{drop_more}
use Rattle.pf_model.specs.declared.Tri.{Tri}
use Rattle.pf_model.specs.Exchange.{AreSound, IsTurned, SharesNoEdge}
use Rattle.pf_edges.specs.Table.{HasNamedCorners, ShowsTriangles}
use Rattle.pf_edges.proofs.TableSteps.{same_places}
use Rattle.pf_apply.proofs.BuildList.{shows-cons}
use Rattle.pf_mesh.proofs.Entered.{sound-drop, first-turned, shares-none, still-within}
use Rattle.pf_mesh.proofs.entering.enter_listed.Goals as goal

abbrev none : Tri
none = record { a = 0; b = 0; c = 0; owner = 0 }

pub put-requires-clause-within : goal.put-requires-clause-within
put-requires-clause-within c =
    let tris = c.args.tris.now in
    let at : ℕ = length tris - 1 - c.loop-k.k in
    let within : at < length tris = (let t = c.loop-k-test.true in omega (arith, t)) in
    still-within _ _ (get_or tris at none) c.loop-k.invariant.1 (c.requires.within at none within)

pub loop-k-preserved : goal.loop-k-preserved
loop-k-preserved c =
    let tris = c.args.tris.now in
    let k = c.loop-k.k in
    let at : ℕ = length tris - 1 - k in
    let t : Tri = get_or tris at none in
    let test = c.loop-k-test.true in
    let within : at < length tris = omega (arith, test) in
    let inv = c.loop-k.invariant in
    let next : at + 1 ≡ length tris - k = omega (arith, test) in
    let here : length tris - (k + 1) ≡ at = omega (arith, test) in
    let rest : List Tri = drop (length tris - k) tris in
    let more : drop (length tris - (k + 1)) tris ≡ t ∷ rest = ap (λ i. drop i tris) here ∙ (drop_more tris at none within ∙ ap (λ i. t ∷ drop i tris) next) in
    let S : List Tri → Type 0 = λ l. AreSound l in
    let sound : AreSound (t ∷ rest) = subst S more (sound-drop (length tris - (k + 1)) tris c.requires.sound) in
    let bare = shares-none t rest sound in
    let shows = shows-cons c.put.new.self.sides c.put.new.self.nodes.items t rest bare (c.put.ensures.shows rest inv.0 (first-turned t rest sound) bare) in
    let V : List Tri → Type 0 = λ l. ShowsTriangles c.put.new.self.sides c.put.new.self.nodes.items l in
    let room = c.put.ensures.room in
    let room' = inv.2 in (
      subst V (sym more) shows,
      same_places _ _ _ inv.1 c.put.ensures.places,
      omega (arith, room, room'),
    )
