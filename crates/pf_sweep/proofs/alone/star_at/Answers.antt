use Rattle.std.proofs.Common.{◌≡◌, ◌∙◌, List, sym, subst, ap, map}
use Rattle.std.specs.Prelude.{All, Some, filter_map}
use Rattle.std.specs.List.Sorted.{IsPermutation}
use Rattle.pf_geom.specs.declared.Point.{Point}
use Rattle.pf_geom.specs.Plane.{IsInRange}
use Rattle.pf_model.specs.declared.Spoke.{Spoke}
use Rattle.pf_spokes.specs.Spokes.{HasSpots}
use Rattle.pf_sweep.proofs.Turns.{spots-by}
use Rattle.pf_model.specs.declared.Tri.{Tri}
use Rattle.pf_model.specs.declared.Site.{Site}
use Rattle.pf_model.specs.Mesh.{point_of}
use Rattle.pf_model.specs.Stars.{star_of}
use Rattle.pf_sweep.specs.Lists.{mesh_by}
use Rattle.pf_sweep.specs.Points.{ArePoints}
use Rattle.pf_sweep.specs.Sweep.{corner_at, spoke_by}
use Rattle.pf_sweep.proofs.Swept.{alone-is}
use Rattle.pf_sweep.proofs.alone.star_at.Goals as goal

pub of_parts-requires-clause-spokes : goal.of_parts-requires-clause-spokes
of_parts-requires-clause-spokes c =
    let A : List Spoke → Type 0 = λ ss. All HasSpots ss in
    let B : List Point → Type 0 = λ ps. All IsInRange ps in
    c.sort_spokes.ensures.in_range (subst A (sym c.in_ok-spokes.ensures) (spots-by c.deref.result.now (filter_map (corner_at c.args.n) c.args.tris.now) (subst B (sym c.deref.ensures.value) c.in_ok-points.ensures.in_range)))

pub returns : goal.returns
returns c =
    let l = c.requires in
    let w = l.mesh in
    let n = c.args.n in
    let points : List Point = c.in_ok-points.points.items in
    let P : List Site → Type 0 = λ ss. ArePoints points ss in
    let L : List Site → Type 0 = λ ss. point_of ss n ≡ Some c.in-Some.at in
    let S : List Tri → Type 0 = λ ts. c.in_ok-spokes.spokes.items ≡ map (spoke_by points) (filter_map (corner_at n) ts) in
    let raw = c.in_ok-spokes.ensures ∙ ap (λ ps. map (spoke_by ps) (filter_map (corner_at n) c.args.tris.now)) c.deref.ensures.value in
    let one = alone-is w l.conforming points (subst P (sym l.sites_are) c.in_ok-points.ensures.points) n c.in-Some.at c.in_ok-spokes.spokes.items c.sort_spokes.new.spokes.items (subst L (sym l.sites_are) (sym c.in-Some.ensures.value)) (subst S (sym l.tris_are) raw) c.sort_spokes.ensures.permutation c.sort_spokes.ensures.order in
    ap (λ s. Some s) c.of_parts.ensures ∙ (one ∙ (λ i. star_of (mesh_by (l.sites_are i) (l.tris_are i)) n))
