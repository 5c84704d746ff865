-- Sums over the triangles of a mesh.
use Rattle.std.specs.Prelude.{ℕ, ℤ, pos, ◌+ℤ◌, ◌-ℤ◌, ◌*ℤ◌, List, [], ◌∷◌, Bool, not, ◌&&◌, ◌||◌, ◌==◌, nat_lt, int_lt, filter, length, map, is_some}
use Rattle.pf_geom.specs.declared.Point.{Point}
use Rattle.pf_geom.specs.Plane.{orient_of}
use Rattle.pf_model.specs.declared.Tri.{Tri}
use Rattle.pf_model.specs.Rising.{sorted_by}
use Rattle.pf_model.specs.Mesh.{Undivided, DirectedEdge, directed_edges_of, side_of, place_of, turn_at}
use Rattle.pf_model.specs.Lengths.{Edge, edge_of}

-- the sum over a list of an integer for each element
abbrev pub total : {X : Type 0} → (X → ℤ) → List X → ℤ
total f [] = pos 0
total f (x ∷ xs) = f x +ℤ total f xs

-- twice the area
abbrev pub area2_of : Undivided → ℤ
area2_of m = total (λ t. turn_at m t.a t.b t.c) m.tris

-- the cross product of two points: twice the signed area of the triangle of the origin and them
abbrev pub cross_of : Point → Point → ℤ
cross_of a b = a.x *ℤ b.y -ℤ b.x *ℤ a.y

-- that of a directed edge's ends
abbrev pub cross_at : Undivided → DirectedEdge → ℤ
cross_at m e = cross_of (place_of m e.from) (place_of m e.to)

-- the order of directed edges: by first name, then second
abbrev pub directed_edge_lt : DirectedEdge → DirectedEdge → Bool
directed_edge_lt e f = nat_lt e.from f.from || (e.from == f.from && nat_lt e.to f.to)

-- no triangle has the edge the other way
abbrev pub is_open : List Tri → DirectedEdge → Bool
is_open ts e = not (is_some (side_of ts e.to e.from))

-- the boundary edges, rising
abbrev pub boundary_of : Undivided → List DirectedEdge
boundary_of m = sorted_by directed_edge_lt (filter (is_open m.tris) (directed_edges_of m.tris))

-- the edge is counted in this direction: from the lower name, or where it stands this way alone
abbrev pub is_counted : List Tri → DirectedEdge → Bool
is_counted ts e = is_open ts e || nat_lt e.from e.to

-- the order of edges: by lower name, then higher
abbrev pub edge_lt : Edge → Edge → Bool
edge_lt e f = nat_lt e.lo f.lo || (e.lo == f.lo && nat_lt e.hi f.hi)

-- the edges, each once, by rising names
abbrev pub edges_of : Undivided → List Edge
edges_of m = sorted_by edge_lt (map (λ e. edge_of e.from e.to) (filter (is_counted m.tris) (directed_edges_of m.tris)))

-- the Euler number: live names, less edges, plus triangles
abbrev pub euler_of : Undivided → ℤ
euler_of m = pos (length m.sites) -ℤ pos (length (edges_of m)) +ℤ pos (length m.tris)

-- the point with each coordinate multiplied by q
abbrev pub scaled : ℤ → Point → Point
scaled q p = record { x = q *ℤ p.x; y = q *ℤ p.y }

-- the point is strictly left of the path from a to b, with both multiplied by q
abbrev pub is_left_of : Undivided → ℤ → Point → ℕ → ℕ → Bool
is_left_of m q p a b = int_lt (pos 0) (orient_of (scaled q (place_of m a)) (scaled q (place_of m b)) p)

-- how many triangles have the point (x/q, y/q) strictly inside
abbrev pub cover_of : Undivided → Point → ℤ → ℕ
cover_of m p q = length (filter (λ t. is_left_of m q p t.a t.b && (is_left_of m q p t.b t.c && is_left_of m q p t.c t.a)) m.tris)
