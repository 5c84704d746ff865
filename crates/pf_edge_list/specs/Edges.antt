-- The sorted list of edges.
use Rattle.std.specs.Prelude.{◌≡◌, ◌≢◌, ◌<◌, ◌≤◌, ℕ, List, [], ◌∷◌, true, All, Some, filter, flat_map, length, map, slice_get, slice_index_or}
use Rattle.std.specs.Option.{option_map}
use Rattle.pf_model.specs.declared.Tri.{Tri}
use Rattle.pf_model.specs.Mesh.{Undivided, DirectedEdge}
use Rattle.pf_model.specs.Lengths.{Edge, edge_of}
use Rattle.pf_model.specs.Sums.{edge_lt, edges_of, is_counted}
use Rattle.pf_edge_list.specs.declared.edges.Edges.{Edges}
use Rattle.pf_edge_list.specs.declared.edges.Corner.{Corner}
use Rattle.pf_edge_list.specs.declared.edges.Corner.TheVariants.{First, Second, Third}
use Rattle.pf_edge_list.specs.declared.edges.ByCorner.{ByCorner}
use Rattle.pf_edge_list.specs.declared.edges.Sided.{Sided}
use Rattle.pf_edge_list.specs.declared.edges.Located.{Located}
use Rattle.pf_rules.specs.Lengths.{span_value}
use Rattle.pf_edges.specs.Table.{Sides, side_at}

-- the edges of the directed ones that are counted
abbrev pub counted_in : List Tri → List DirectedEdge → List Edge
counted_in ts es = map (λ e. edge_of e.from e.to) (filter (is_counted ts) es)

-- the directed edge of the triangle that starts at the corner
abbrev pub edge_from : Corner → Tri → DirectedEdge
edge_from First t = record { from = t.a; to = t.b }
edge_from Second t = record { from = t.b; to = t.c }
edge_from Third t = record { from = t.c; to = t.a }

-- the counted edges that start at this corner of each of the triangles
abbrev pub counted_from : List Tri → Corner → List Tri → List Edge
counted_from ts corner us = flat_map (λ t. counted_in ts (edge_from corner t ∷ [])) us

-- the edge
abbrev pub sided_edge : Sided → Edge
sided_edge e = span_value e.span

-- the edge has the triangles that the table has on its two sides
pub record IsSided (table : Sides) (e : Sided) : Type 0 where
  pub left : e.edge_sides.left ≡ side_at table e.span.lo e.span.hi
  pub right : e.edge_sides.right ≡ side_at table e.span.hi e.span.lo

-- and its lower name stands first
pub record IsListed (table : Sides) (e : Sided) : Type 0 where
  pub sided : IsSided table e
  pub sorted : e.span.lo ≤ e.span.hi

-- the table has the triangle left of each of its three edges
pub record IsOnEdges (table : Sides) (t : Tri) : Type 0 where
  pub from_first : side_at table t.a t.b ≡ Some record { apex = t.c; owner = t.owner }
  pub from_second : side_at table t.b t.c ≡ Some record { apex = t.a; owner = t.owner }
  pub from_third : side_at table t.c t.a ≡ Some record { apex = t.b; owner = t.owner }

-- and so each of these triangles
abbrev pub AreSided : Sides → List Tri → Type 0
AreSided table ts = All (IsOnEdges table) ts

-- the edges that come from this corner
abbrev pub part_of : Corner → ByCorner → List Sided
part_of First parts = parts.first.items
part_of Second parts = parts.second.items
part_of Third parts = parts.third.items

-- this edge stands at the place
abbrev pub StandsAt : List Sided → Edge → ℕ → Type 0
StandsAt edges e i = option_map sided_edge (slice_get edges i) ≡ Some e

-- and does so at places of this block alone
pub record IsOnlyIn (edges : List Sided) (e : Edge) (from to : ℕ) : Type 0 where
  pub each : (i : ℕ) (x : Sided) → slice_get edges i ≡ Some x → sided_edge x ≡ e → (from ≤ i) × (i < to)

-- and does so nowhere
pub record IsAbsent (edges : List Sided) (e : Edge) : Type 0 where
  pub nowhere : (i : ℕ) (x : Sided) → slice_get edges i ≡ Some x → sided_edge x ≢ e

-- each edge stands before all that come later
pub record AreRising (edges : List Sided) : Type 0 where
  pub each : (i j : ℕ) (x y : Sided) → slice_get edges i ≡ Some x → slice_get edges j ≡ Some y → i < j → edge_lt (sided_edge x) (sided_edge y) ≡ true

-- the edges before the place have lower names less than n
pub record IsBelow (edges : List Sided) (n s : ℕ) : Type 0 where
  pub each : (i : ℕ) (x : Sided) → slice_get edges i ≡ Some x → i < s → x.span.lo < n

-- those from the place on haven't
pub record IsUpFrom (edges : List Sided) (n s : ℕ) : Type 0 where
  pub each : (i : ℕ) (x : Sided) → slice_get edges i ≡ Some x → s ≤ i → n ≤ x.span.lo

-- so the place is that of the first edge whose lower name isn't less than n
pub record IsStart (edges : List Sided) (n s : ℕ) : Type 0 where
  pub below : IsBelow edges n s
  pub up : IsUpFrom edges n s

-- each name has its place in the list of places
pub record AreStarts (edges : List Sided) (starts : List ℕ) : Type 0 where
  pub each : (n d : ℕ) → n < length starts → IsStart edges n (slice_index_or starts n d)

-- and of the edges with their places. Nothing is said of names past the places
abbrev pub HasStarts : Edges → Type 0
HasStarts edges = AreStarts edges.list.items edges.starts.items

-- these are the edges of the mesh, by rising names, with where each lower name begins
pub record AreEdges (m : Undivided) (edges : Edges) : Type 0 where
  pub all : map sided_edge edges.list.items ≡ edges_of m
  pub starts : HasStarts edges

-- the spot has this edge, with its sides, and its place if any is in the list
pub record IsLocated (table : Sides) (edges : List Sided) (e : Edge) (spot : Located) : Type 0 where
  pub edge : sided_edge spot.edge ≡ e
  pub sided : IsSided table spot.edge
  pub placed : (i : ℕ) → spot.place ≡ Some i → slice_get edges i ≡ Some spot.edge
