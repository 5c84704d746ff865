-- The points of what is put in are in range.
use Rattle.std.proofs.Common.{List, [], ◌∷◌, sym, subst, inl, inr}
use Rattle.std.specs.Prelude.{All, IfSome, Option, Some, None, filter, not}
use Rattle.pf_model.specs.declared.Spoke.{Spoke}
use Rattle.pf_model.proofs.Members.{nowhere, cases, filter-out}
use Rattle.pf_model.proofs.Totals.{map-means}
use Rattle.pf_star_model.specs.Lent.{has_name}
use Rattle.pf_spokes.specs.Spokes.{HasSpots}
use Rattle.pf_patch.specs.declared.tris.Corner.{Corner}
use Rattle.pf_patch.specs.declared.tris.NewTri.{NewTri}
use Rattle.pf_patch.specs.Tris.{HasCorners, HasSpot}
use Rattle.pf_patch.specs.Plans.{flip_triangles, left_halves, right_halves, moved, moved_one, right_of, left_of, tri}
use Rattle.pf_patch.proofs.Bridge.{all-member, all-from}

none-all : All HasCorners []
none-all = all-from HasCorners [] (λ t h. absurd (nowhere t h))

two-all : (s t : NewTri) → HasCorners s → HasCorners t → All HasCorners (s ∷ t ∷ [])
two-all s t hs ht = all-from HasCorners (s ∷ t ∷ []) (λ x h. elim (cases x s (t ∷ []) h) [ inl e ↦ subst HasCorners (sym e) hs | inr i ↦ elim (cases x t [] i) [ inl e ↦ subst HasCorners (sym e) ht | inr z ↦ absurd (nowhere x z) ] ])

pub turned-spots : (lo : Corner) (l r : Option Spoke) → HasSpot lo → IfSome l HasSpots → IfSome r HasSpots → All HasCorners (flip_triangles lo l r)
turned-spots lo None r h hl hr = none-all
turned-spots lo (Some l) None h hl hr = none-all
turned-spots lo (Some l) (Some r) h hl hr = two-all (tri lo (right_of r) (left_of l) l.owner) (tri (right_of l) (left_of l) (right_of r) r.owner) record { first = h; second = hr.right; third = hl.left } record { first = hl.right; second = hl.left; third = hr.right }

pub left-spots : (n lo hi : Corner) (l : Option Spoke) → HasSpot n → HasSpot lo → HasSpot hi → IfSome l HasSpots → All HasCorners (left_halves n lo hi l)
left-spots n lo hi None hn ha hb h = none-all
left-spots n lo hi (Some l) hn ha hb h = two-all (tri lo n (left_of l) l.owner) (tri n hi (left_of l) l.owner) record { first = ha; second = hn; third = h.left } record { first = hn; second = hb; third = h.left }

pub right-spots : (n lo hi : Corner) (r : Option Spoke) → HasSpot n → HasSpot lo → HasSpot hi → IfSome r HasSpots → All HasCorners (right_halves n lo hi r)
right-spots n lo hi None hn ha hb h = none-all
right-spots n lo hi (Some r) hn ha hb h = two-all (tri hi n (right_of r) r.owner) (tri n lo (right_of r) r.owner) record { first = hb; second = hn; third = h.right } record { first = hn; second = ha; third = h.right }

pub moved-spots : (v : Corner) (ss : List Spoke) → HasSpot v → All HasSpots ss → All HasCorners (moved v ss)
moved-spots v ss h hs = all-from HasCorners (moved v ss) (λ t k.
    let r = map-means (moved_one v) (filter (λ s. not (has_name v.name s)) ss) t k in
    let s = all-member HasSpots ss hs r.0 (filter-out (λ x. not (has_name v.name x)) r.0 ss r.1).0 in
    subst HasCorners r.2 record { first = h; second = s.right; third = s.left })
