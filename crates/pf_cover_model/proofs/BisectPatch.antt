-- Sums over the triangles after a bisection: those that are cut leave the sum, and their halves enter it.
-- Assumes `IsConforming m` and what a bisection that passes has.
use Rattle.std.proofs.Common.{◌≡◌, ℕ, [], ◌∷◌, refl, ◌∙◌, ap, true, arith}
use Rattle.std.specs.Prelude.{Some, unwrap_or, nat_eq, ℤ, pos, ◌+ℤ◌}
use Rattle.std.proofs.lemmas.Int.{ints}
use Rattle.std.proofs.lemmas.Bool.Decides.{nat_tests}
use Rattle.pf_geom.specs.declared.Point.{Point}
use Rattle.pf_geom.specs.Plane.{middle_of}
use Rattle.pf_model.specs.declared.Tri.{Tri}
use Rattle.pf_model.specs.declared.Side.{Side}
use Rattle.pf_model.specs.Mesh.{Undivided, tri_lt, side_of, place_of, point_of, is_edge}
use Rattle.pf_model.specs.Conforming.{IsConforming}
use Rattle.pf_model.specs.Applied.{is_at_edge, halves_of}
use Rattle.pf_model.specs.Sums.{total}
use Rattle.pf_model.proofs.Kept.{side_of-stands}
use Rattle.pf_model.proofs.Totals.{total-replaced, total-append}
use Rattle.pf_model.proofs.SitesAfter.{AreBelow, point_of-past, fresh_not_live}
use Rattle.pf_model.proofs.FlipKeeps.{AreCorners, corners_of}
use Rattle.pf_model.proofs.BisectKeeps.{added, after}
use Rattle.pf_cover_model.proofs.AtEdge.{old_of, at_edge_total}

module _ (m : Undivided) (ok : IsConforming m) (n lo hi : ℕ) (mid : Point) (fresh : AreBelow m.sites n) (middle : middle_of (place_of m lo) (place_of m hi) ≡ Some mid) (edge : is_edge m.tris lo hi ≡ true) where
  abbrev pub mesh_after : Undivided
  mesh_after = after m ok n lo hi mid fresh middle edge

  found_new : point_of mesh_after.sites n ≡ Some mid
  found_new = point_of-past m.sites (record { name = n; at = mid } ∷ []) n (fresh_not_live m.sites n fresh) ∙ at_itself n
    where
      at_itself : (k : ℕ) → point_of (record { name = k; at = mid } ∷ []) k ≡ Some mid
      at_itself k = let e : nat_eq k k ≡ true = grind (arith, nat_tests) in rw e refl

  pub place_new : place_of mesh_after n ≡ mid
  place_new = ap (λ o. unwrap_or o record { x = pos 0; y = pos 0 }) found_new

  pub bisect_total : (g : Tri → ℤ) → total g mesh_after.tris +ℤ (total g (old_of lo hi (side_of m.tris lo hi)) +ℤ total g (old_of hi lo (side_of m.tris hi lo))) ≡ (total g (halves_of n lo hi (side_of m.tris lo hi)) +ℤ total g (halves_of n hi lo (side_of m.tris hi lo))) +ℤ total g m.tris
  bisect_total g =
      let a = total-replaced g tri_lt (is_at_edge lo hi) (added m ok n lo hi mid fresh middle edge) m.tris in
      let b = at_edge_total m ok lo hi g in
      let c = total-append g (halves_of n lo hi (side_of m.tris lo hi)) (halves_of n hi lo (side_of m.tris hi lo)) in
      omega (arith, ints, a, b, c)

  -- the corners of the triangle left of an edge
  pub side_corners : (p q : ℕ) (s : Side) → side_of m.tris p q ≡ Some s → AreCorners m p q s.apex
  side_corners p q s e = corners_of m ok p q s.apex s.owner (side_of-stands m.tris (λ t h. let p = ok.proper t h in record { least = p.least; least' = p.least'; apart = p.apart }) p q s e)
