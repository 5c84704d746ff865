use Rattle.std.proofs.Common.{◌≡◌, ◌∙◌, List, sym, subst, ap, map}
use Rattle.std.specs.Prelude.{Some}
use Rattle.std.specs.List.Sorted.{IsPermutation}
use Rattle.pf_geom.specs.declared.Point.{Point}
use Rattle.pf_model.specs.declared.Tri.{Tri}
use Rattle.pf_model.specs.declared.Site.{Site}
use Rattle.pf_model.specs.Stars.{star_of}
use Rattle.pf_sweep.specs.declared.corners.Corner.{Corner}
use Rattle.pf_sweep.specs.Lists.{mesh_by}
use Rattle.pf_sweep.specs.Points.{ArePoints}
use Rattle.pf_sweep.specs.Sweep.{corners_of, grouped}
use Rattle.pf_sweep.proofs.Swept.{swept-is}
use Rattle.pf_sweep.proofs.sweep.stars.Goals as goal

pub returns : goal.returns
returns c =
    let l = c.requires in
    let w = l.mesh in
    let points : List Point = c.in_ok-points.points.items in
    let cs : List Corner = c.sort_corners.new.corners.items in
    let P : List Site → Type 0 = λ ss. ArePoints points ss in
    let Q : List Tri → Type 0 = λ ts. IsPermutation (corners_of ts) cs in
    let R : List Corner → Type 0 = λ ds. IsPermutation ds cs in
    let perm = subst Q (sym l.tris_are) (subst R c.in_ok-corners.ensures c.sort_corners.ensures.permutation) in
    let law = swept-is w l.conforming points (subst P (sym l.sites_are) c.in_ok-points.ensures.points) cs perm c.sort_corners.ensures.order in
    let made = c.in_ok-stars.ensures ∙ (λ i. grouped (c.deref.ensures.value i) c.args.sites.now (c.deref-2.ensures.value i)) in
    ap (map (λ s. Some s)) (made ∙ ap (λ ss. grouped points ss cs) (sym l.sites_are))
    ∙ (law ∙ (λ i. map (λ s. star_of (mesh_by (l.sites_are i) (l.tris_are i)) s.name) (l.sites_are i)))
