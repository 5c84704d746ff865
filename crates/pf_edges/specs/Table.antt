-- What the edge table shows: which triangle stands left of each directed edge, and how many triangles each node has.
use Rattle.std.specs.Prelude.{◌≡◌, ℕ, ◌*◌, ◌<◌, Bool, cond, ◌&&◌, ◌==◌, nat_lt, List, length, slice_index_or, unwrap_or, Option, Some, None, pos, []}
use Rattle.std.specs.declared.hash.BuildHasherDefault.{BuildHasherDefault}
use Rattle.indexmap.specs.IndexMap.{IndexMap, get, index_map_len}
use Rattle.pf_geom.specs.declared.Point.{Point}
use Rattle.pf_geom.specs.Plane.{IsInRange}
use Rattle.pf_model.specs.declared.Tri.{Tri}
use Rattle.pf_model.specs.Mesh.{Undivided, side_of, point_of}
use Rattle.pf_model.specs.declared.Side.{Side}
use Rattle.pf_model.specs.Exchange.{number_at}
use Rattle.pf_edges.specs.declared.hasher.EdgeHasher.{EdgeHasher}
use Rattle.pf_edges.specs.declared.table.Edge.{Edge}
use Rattle.pf_edges.specs.declared.table.Node.{Node}
use Rattle.pf_model.specs.Build.{point_at}

abbrev pub Sides : Type 0
Sides = IndexMap Edge Side (BuildHasherDefault EdgeHasher)

-- the two are one directed edge
abbrev pub edge_eq : Edge → Edge → Bool
edge_eq e f = e.from == f.from && e.to == f.to

-- the side that the table has left of the directed edge p to q
abbrev pub side_at : Sides → ℕ → ℕ → Option Side
side_at sides p q = (get edge_eq sides record { from = p; to = q })

-- what stands past the last name
abbrev pub no_node : Node
no_node = record { at = record { x = pos 0; y = pos 0 }; triangles = 0 }

-- the number of triangles that the table has at a name
abbrev pub triangles_at : List Node → ℕ → ℕ
triangles_at nodes n = (slice_index_or nodes n no_node).triangles

-- where the table has a name
abbrev pub place_at : List Node → ℕ → Point
place_at nodes n = (slice_index_or nodes n no_node).at

-- the point of a name that has triangles
abbrev pub site_at : List Node → ℕ → Option Point
site_at nodes n = cond (nat_lt 0 (triangles_at nodes n)) (Some (place_at nodes n)) None

-- the table has these triangles
pub record ShowsTriangles (table : Sides) (nodes : List Node) (ts : List Tri) : Type 0 where
  pub sides : (p q : ℕ) → side_at table p q ≡ side_of ts p q
  pub counts : (n : ℕ) → triangles_at nodes n ≡ number_at n ts
  pub all : index_map_len table ≡ 3 * length ts

-- the table has this mesh's triangles and sites
pub record Shows (table : Sides) (nodes : List Node) (m : Undivided) : Type 0 where
  pub triangles : ShowsTriangles table nodes m.tris
  pub sites : (n : ℕ) → site_at nodes n ≡ point_of m.sites n

-- the corners of the triangle are names of the table
pub record HasNamedCorners (nodes : List Node) (t : Tri) : Type 0 where
  pub first : t.a < length nodes
  pub second : t.b < length nodes
  pub third : t.c < length nodes

-- both tables have the same places
pub record HasSamePlaces (old new : List Node) : Type 0 where
  pub names : length new ≡ length old
  pub places : (n : ℕ) → place_at new n ≡ place_at old n

-- where a name that has triangles stands, and the origin for every other
abbrev pub point_or_origin : List Node → ℕ → Point
point_or_origin nodes n = unwrap_or (site_at nodes n) record { x = pos 0; y = pos 0 }

-- every place of the table is in range
pub record ArePlacesInRange (nodes : List Node) : Type 0 where
  pub each : (n : ℕ) → IsInRange (place_at nodes n)

-- the table has these points and no triangles
pub record IsEmptyTable (sides : Sides) (nodes : List Node) (points : List Point) : Type 0 where
  pub shows : ShowsTriangles sides nodes []
  pub names : length nodes ≡ length points
  pub places : (n : ℕ) → place_at nodes n ≡ point_at points n
