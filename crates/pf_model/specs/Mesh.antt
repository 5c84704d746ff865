-- The undivided mesh as lists and numbers, and how names, points, triangles and edges are found in it.
-- Where there is none, a point is the origin and a side is None.
use Rattle.std.specs.Prelude.{ℕ, List, [], ◌∷◌, Bool, cond, ◌&&◌, ◌||◌, ◌==◌, nat_lt, Option, Some, None, is_some, unwrap_or, flat_map, pos, ℤ}
use Rattle.pf_geom.specs.declared.Point.{Point}
use Rattle.pf_geom.specs.Plane.{orient_of, len2_of}
use Rattle.pf_model.specs.declared.Tri.{Tri}
use Rattle.pf_model.specs.declared.Site.{Site}
use Rattle.pf_model.specs.declared.Band.{Band}
use Rattle.pf_model.specs.declared.Side.{Side}

-- a mesh as data: the number of the nodes that were read, from which new names count up, the live nodes by rising name, the
-- triangles by rising corners, the bands with the default last, and the number of chunks
pub record Undivided : Type 0 where
  pub first_new : ℕ
  pub sites : List Site
  pub tris : List Tri
  pub bands : List Band
  pub chunks : ℕ

-- the triangle p, q, z, written least corner first
abbrev pub tri_of : ℕ → ℕ → ℕ → ℕ → Tri
tri_of p q z owner =
    cond (nat_lt p q && nat_lt p z) record { a = p; b = q; c = z; owner = owner }
    (cond (nat_lt q z && nat_lt q p) record { a = q; b = z; c = p; owner = owner } record { a = z; b = p; c = q; owner = owner })

-- the order of triangles: by corners
abbrev pub tri_lt : Tri → Tri → Bool
tri_lt s t = nat_lt s.a t.a || (s.a == t.a && (nat_lt s.b t.b || (s.b == t.b && nat_lt s.c t.c)))

-- the triangle has the directed edge p to q
abbrev pub has_edge : ℕ → ℕ → Tri → Bool
has_edge p q t = (t.a == p && t.b == q) || ((t.b == p && t.c == q) || (t.c == p && t.a == q))

-- n is a corner of the triangle
abbrev pub has_corner : ℕ → Tri → Bool
has_corner n t = t.a == n || (t.b == n || t.c == n)

-- a directed edge
pub record DirectedEdge : Type 0 where
  pub from : ℕ
  pub to : ℕ

-- the three directed edges of a triangle
abbrev pub directed_edges_in : Tri → List DirectedEdge
directed_edges_in t = record { from = t.a; to = t.b } ∷ record { from = t.b; to = t.c } ∷ record { from = t.c; to = t.a } ∷ []

-- the directed edges of the triangles
abbrev pub directed_edges_of : List Tri → List DirectedEdge
directed_edges_of ts = flat_map directed_edges_in ts

-- the edge the other way
abbrev pub reversed : DirectedEdge → DirectedEdge
reversed e = record { from = e.to; to = e.from }

-- the corner that is neither end of the directed edge p to q of the triangle
abbrev pub apex_in : ℕ → ℕ → Tri → ℕ
apex_in p q t = cond (t.a == p && t.b == q) t.c (cond (t.b == p && t.c == q) t.a t.b)

-- the left side of the directed edge p to q
abbrev pub side_of : List Tri → ℕ → ℕ → Option Side
side_of [] p q = None
side_of (t ∷ ts) p q = cond (has_edge p q t) (Some record { apex = apex_in p q t; owner = t.owner }) (side_of ts p q)

-- some triangle has both names as an edge, one way or the other
abbrev pub is_edge : List Tri → ℕ → ℕ → Bool
is_edge ts p q = is_some (side_of ts p q) || is_some (side_of ts q p)

-- the point of a live name
abbrev pub point_of : List Site → ℕ → Option Point
point_of [] n = None
point_of (s ∷ ss) n = cond (s.name == n) (Some s.at) (point_of ss n)

-- the point of a name, and the origin where it is not live
abbrev pub place_of : Undivided → ℕ → Point
place_of m n = unwrap_or (point_of m.sites n) record { x = pos 0; y = pos 0 }

-- the orientation of three names
abbrev pub turn_at : Undivided → ℕ → ℕ → ℕ → ℤ
turn_at m p q z = orient_of (place_of m p) (place_of m q) (place_of m z)

-- the squared length between two names
abbrev pub len2_at : Undivided → ℕ → ℕ → ℤ
len2_at m p q = len2_of (place_of m p) (place_of m q)
