use Rattle.std.proofs.Common.{◌≡◌, ℕ, ◌+◌, ◌<◌, ◌++◌, List, [], ◌∷◌, length, take, get_or, map, sym, subst, ◌∙◌, ap, arith, None, Some}
use Rattle.pf_model.specs.declared.Tri.{Tri}
use Rattle.pf_model.specs.Clauses.{first_of}
use Rattle.pf_model.specs.Build.{turned_left, build_clauses}
use Rattle.pf_model.specs.Exchange.{IsTurned, SharesNoEdge}
use Rattle.pf_edges.specs.Table.{HasNamedCorners, ShowsTriangles}
use Rattle.pf_apply.specs.BuildSteps.{earlier_from, AreAccepted}
use Rattle.pf_edges.proofs.TableSteps.{same_places}
use Rattle.pf_apply.proofs.BuildList.{earlier-more, listed-more, fault-on, fault-here, accepted-at, shows-cons}
use Rattle.pf_apply.proofs.building.enter_triangles.Goals as goal

pub put-requires-clause-within : goal.put-requires-clause-within
put-requires-clause-within c =
    let points = c.args.points.now in
    let tris = c.args.tris.now in
    let i = c.loop-corners.corners-index in
    let inv = c.loop-corners.invariant in
    let h = c.in-Ok.ensures.clauses (earlier_from points [] (take i tris)) inv.5 in
    let a = accepted-at points (earlier_from points [] (take i tris)) c.loop-corners.tri (get_or tris i []) c.in-Ok.ensures.three inv.6 h.0 in
    let n : length c.loop-corners.table.nodes.items ≡ length points = inv.4.names ∙ c.requires.empty.names in
    let w = a.corners in
    let P : Tri → Type 0 = λ t. HasNamedCorners c.loop-corners.table.nodes.items t in
    subst P (sym h.1) record { first = omega (arith, w.0, n); second = omega (arith, w.1, n); third = omega (arith, w.2, n) }

pub loop-corners-preserved : goal.loop-corners-preserved
loop-corners-preserved c =
    let points = c.args.points.now in
    let tris = c.args.tris.now in
    let i = c.loop-corners.corners-index in
    let inv = c.loop-corners.invariant in
    let e = earlier_from points [] (take i tris) in
    let within : i < length tris = omega arith in
    let h = c.in-Ok.ensures.clauses (earlier_from points [] (take i tris)) inv.5 in
    let a = accepted-at points (earlier_from points [] (take i tris)) c.loop-corners.tri (get_or tris i []) c.in-Ok.ensures.three inv.6 h.0 in
    let t = turned_left points (get_or tris i []) in
    let T : Tri → Type 0 = λ x. IsTurned x in
    let S : Tri → Type 0 = λ x. SharesNoEdge x e in
    let bare = subst S (sym h.1) a.apart_from in
    let shows = shows-cons c.put.new.self.sides c.put.new.self.nodes.items c.in-Ok.t e bare (c.put.ensures.shows e inv.5 (subst T (sym h.1) a.turned) bare) in
    let V : List Tri → Type 0 = λ l. ShowsTriangles c.put.new.self.sides c.put.new.self.nodes.items l in
    let W : List Tri → Type 0 = λ l. AreAccepted points l in
    let next : earlier_from points [] (take (i + 1) tris) ≡ t ∷ e = earlier-more points tris i within in
    let pushed : c.push.new.self.items ≡ c.loop-corners.listed.items ++ c.in-Ok.t ∷ [] = rw c.unwrap.ensures at c.push.ensures.items in
    let cap = c.push.ensures.capacity in
    let cap' = inv.2 in
    let room = c.put.ensures.room in
    let room' = inv.3 in
    let N : ℕ → Type 0 = λ k. first_of (build_clauses points e k (get_or tris i [])) ≡ None in (
      omega (arith, inv.0),
      pushed ∙ (ap (λ l. l ++ c.in-Ok.t ∷ []) inv.1 ∙ (ap (λ x. map (turned_left points) (take i tris) ++ x ∷ []) h.1 ∙ sym (listed-more points tris i within))),
      omega (arith, cap, cap'),
      omega (arith, room, room'),
      same_places _ _ _ inv.4 c.put.ensures.places,
      subst V (ap (λ x. x ∷ e) h.1 ∙ sym next) shows,
      subst W (sym next) a.part,
      fault-on points tris i within (subst N inv.0 h.0) ∙ inv.7,
    )

pub returns-in-Err-clause-err : goal.returns-in-Err-clause-err
returns-in-Err-clause-err c =
    let points = c.args.points.now in
    let tris = c.args.tris.now in
    let i = c.loop-corners.corners-index in
    let inv = c.loop-corners.invariant in
    let e = earlier_from points [] (take i tris) in
    let within : i < length tris = omega arith in
    let h = c.in-Err.ensures.clauses (earlier_from points [] (take i tris)) inv.5 in
    let N : ℕ → Type 0 = λ k. first_of (build_clauses points e k (get_or tris i [])) ≡ Some c.in-Err.fault in
    sym inv.7 ∙ fault-here points e i tris c.in-Err.fault within (subst N inv.0 h)
