-- What makes a mesh conforming.
use Rattle.std.specs.Prelude.{◌≡◌, ◌≢◌, ℕ, ◌<◌, List, [], ◌∷◌, Bool, true, is_some, ◌<ℤ◌, pos, Contains, AllPairs, ◌&&◌, int_le}
use Rattle.std.specs.List.{list_any}
use Rattle.pf_geom.specs.declared.Point.{Point}
use Rattle.pf_geom.specs.Plane.{IsInRange}
use Rattle.pf_model.specs.declared.Tri.{Tri}
use Rattle.pf_model.specs.declared.Site.{Site}
use Rattle.pf_model.specs.declared.Band.{Band}
use Rattle.pf_model.specs.Rising.{IsRising}
use Rattle.pf_model.specs.Mesh.{Undivided, tri_lt, has_edge, has_corner, point_of, turn_at}

-- the name has a point
abbrev pub IsLive : Undivided → ℕ → Type 0
IsLive m n = is_some (point_of m.sites n) ≡ true

-- the triangle's corners are live and distinct, and the least stands first
pub record IsProper (m : Undivided) (t : Tri) : Type 0 where
  pub first : IsLive m t.a
  pub second : IsLive m t.b
  pub third : IsLive m t.c
  pub least : t.a < t.b
  pub least' : t.a < t.c
  pub apart : t.b ≢ t.c

-- the band's rectangle holds the point
abbrev pub holds : Band → Point → Bool
holds b p = int_le b.xlo p.x && (int_le p.x b.xhi && (int_le b.ylo p.y && int_le p.y b.yhi))

-- there is a last band, and it holds every point
abbrev pub HasDefault : List Band → Type 0
HasDefault [] = ⊥
HasDefault (b ∷ []) = (p : Point) → IsInRange p → holds b p ≡ true
HasDefault (b ∷ c ∷ bs) = HasDefault (c ∷ bs)

-- no directed edge stands in two triangles
abbrev pub HasEdgesOnce : List Tri → Type 0
HasEdgesOnce ts = (s t : Tri) (p q : ℕ) → Contains ts s → Contains ts t → has_edge p q s ≡ true → has_edge p q t ≡ true → s ≡ t

pub record IsConforming (m : Undivided) : Type 0 where
  pub proper : (t : Tri) → Contains m.tris t → IsProper m t
  pub positive : (t : Tri) → Contains m.tris t → pos 0 <ℤ turn_at m t.a t.b t.c
  pub edges_once : HasEdgesOnce m.tris
  pub used : (n : ℕ) → IsLive m n → list_any (has_corner n) m.tris ≡ true
  pub owned : (t : Tri) → Contains m.tris t → t.owner < m.chunks
  pub in_range : (s : Site) → Contains m.sites s → IsInRange s.at
  pub default : HasDefault m.bands
  pub sites_rise : AllPairs (λ r s. r.name < s.name) m.sites
  pub tris_rise : IsRising tri_lt m.tris
