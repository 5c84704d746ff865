-- The lists of a mesh, made anew from the edge table.
use Rattle.std.specs.Prelude.{ℕ, ◌<◌, ◌≤◌, List, [], ◌∷◌, Bool, cond, ◌&&◌, nat_lt, length}
use Rattle.pf_model.specs.declared.Tri.{Tri}
use Rattle.pf_model.specs.Mesh.{Undivided}
use Rattle.pf_model.specs.declared.Side.{Side}
use Rattle.pf_model.specs.Conforming.{IsLive}
use Rattle.pf_edges.specs.declared.table.Edge.{Edge}
use Rattle.pf_edges.specs.declared.table.Node.{Node}
use Rattle.pf_edges.specs.Table.{Sides}
use Rattle.pf_edges.specs.Kept.{IsKept}

-- the directed edge starts at the least corner of the triangle on its left
abbrev pub starts_least : Edge → Side → Bool
starts_least e l = nat_lt e.from e.to && nat_lt e.from l.apex

-- the triangles of the table's entries, each from the edge that starts at its least corner
abbrev pub least_tris : List (Edge × Side) → List Tri
least_tris [] = []
least_tris (e ∷ es) = cond (starts_least e.0 e.1) (record { a = e.0.from; b = e.0.to; c = e.1.apex; owner = e.1.owner } ∷ least_tris es) (least_tris es)

-- the table shows a mesh of at most so many triangles
pub record ShowsAtMost (sides : Sides) (nodes : List Node) (most : ℕ) : Type 0 where
  pub mesh : Undivided
  pub kept : IsKept sides nodes mesh
  pub few : length mesh.tris ≤ most

-- the table shows a mesh of at most so many nodes, all of whose names are below this
pub record ShowsNamesBelow (sides : Sides) (nodes : List Node) (names most : ℕ) : Type 0 where
  pub mesh : Undivided
  pub kept : IsKept sides nodes mesh
  pub below : (n : ℕ) → IsLive mesh n → n < names
  pub few : length mesh.sites ≤ most
