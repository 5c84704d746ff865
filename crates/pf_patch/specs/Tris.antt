-- Triangles with their points, which are put into stars and taken out of them.
use Rattle.std.specs.Prelude.{◌≡◌, ℕ, List, Bool, cond, not, filter, filter_map, ◌==◌, ◌||◌, Option, Some, None}
use Rattle.pf_geom.specs.Plane.{IsInRange}
use Rattle.pf_model.specs.declared.Spoke.{Spoke}
use Rattle.pf_model.specs.declared.Tri.{Tri}
use Rattle.pf_model.specs.Rising.{insert_all_by}
use Rattle.pf_model.specs.Mesh.{Undivided, tri_of, has_edge, place_of}
use Rattle.pf_model.specs.Stars.{Star, spoke_lt}
use Rattle.pf_patch.specs.declared.tris.Corner.{Corner}
use Rattle.pf_patch.specs.declared.tris.NewTri.{NewTri}
use Rattle.pf_patch.specs.declared.tris.Gone.{Gone}
use Rattle.pf_patch.specs.declared.tris.Gone.TheVariants.{AtEdge, AtNode}

-- its points are in range
pub record HasCorners (t : NewTri) : Type 0 where
  pub first : IsInRange t.p.at
  pub second : IsInRange t.q.at
  pub third : IsInRange t.z.at

-- the spoke between two corners
abbrev pub between : Corner → Corner → ℕ → Spoke
between right left owner = record { right = right.name; right_at = right.at; left = left.name; left_at = left.at; owner = owner }

-- the triangle as a spoke of its corner n
abbrev pub spoke_in : ℕ → NewTri → Option Spoke
spoke_in n t = cond (t.p.name == n) (Some (between t.q t.z t.owner)) (cond (t.q.name == n) (Some (between t.z t.p t.owner)) (cond (t.z.name == n) (Some (between t.p t.q t.owner)) None))

-- the spoke of n has the edge p, q, one way or the other
abbrev pub is_spoke_at : ℕ → ℕ → ℕ → Spoke → Bool
is_spoke_at p q n s = has_edge p q (tri_of n s.right s.left s.owner) || has_edge q p (tri_of n s.right s.left s.owner)

-- the spoke of n has the node u
abbrev pub is_spoke_with : ℕ → ℕ → Spoke → Bool
is_spoke_with u n s = n == u || (s.right == u || s.left == u)

-- the triangle of the spoke of n is taken out
abbrev pub gone_from : Gone → ℕ → Spoke → Bool
gone_from (AtEdge p q) n s = is_spoke_at p q n s
gone_from (AtNode u) n s = is_spoke_with u n s

-- the spokes of n after
abbrev pub spokes_with : Gone → List NewTri → ℕ → List Spoke → List Spoke
spokes_with gone added n ss = insert_all_by spoke_lt (filter_map (spoke_in n) added) (filter (λ s. not (gone_from gone n s)) ss)

-- a star after
abbrev pub star_with : Gone → List NewTri → Star → Star
star_with gone added s = record s { spokes = spokes_with gone added s.node s.spokes }

-- the triangle, least corner first
abbrev pub tri_value : NewTri → Tri
tri_value t = tri_of t.p.name t.q.name t.z.name t.owner

-- the corners are distinct, and stand as in the mesh
pub record IsStanding (w : Undivided) (t : NewTri) : Type 0 where
  pub first : t.p.at ≡ place_of w t.p.name
  pub second : t.q.at ≡ place_of w t.q.name
  pub third : t.z.at ≡ place_of w t.z.name
  pub one : t.p.name ≡ t.q.name → ⊥
  pub two : t.q.name ≡ t.z.name → ⊥
  pub three : t.z.name ≡ t.p.name → ⊥

-- the corner's point is in range
abbrev pub HasSpot : Corner → Type 0
HasSpot c = IsInRange c.at
