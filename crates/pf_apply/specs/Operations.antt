-- An operation that can be applied to a mesh, and what a table has to have for the mesh after it.
use Rattle.std.specs.Prelude.{◌≡◌, ℕ, ◌<◌, List, Some, length}
use Rattle.pf_geom.specs.declared.Point.{Point}
use Rattle.pf_model.specs.declared.Op.{Op}
use Rattle.pf_model.specs.declared.Site.{Site}
use Rattle.pf_model.specs.declared.Tri.{Tri}
use Rattle.pf_model.specs.Mesh.{Undivided, point_of}
use Rattle.pf_model.specs.Conforming.{IsLive}
use Rattle.pf_edges.specs.declared.table.Node.{Node}
use Rattle.pf_edges.specs.Table.{Sides, place_at}
use Rattle.pf_edges.specs.Kept.{IsKept}
use Rattle.pf_rules.specs.Change.{PassesWithName, IsChange}

-- the table shows a mesh to which the operation can be applied, which makes the second list of the first
pub record ShowsApplicable (sides : Sides) (nodes : List Node) (n : ℕ) (op : Op) (removed new : List Tri) : Type 0 where
  pub mesh : Undivided
  pub kept : IsKept sides nodes mesh
  pub can : PassesWithName mesh n op
  pub change : IsChange mesh n op removed new

-- the table and the lists are those of this mesh
pub record AreParts (sides : Sides) (nodes : List Node) (sites : List Site) (tris : List Tri) (m : Undivided) : Type 0 where
  pub kept : IsKept sides nodes m
  pub sites_are : sites ≡ m.sites
  pub tris_are : tris ≡ m.tris

-- they are those of a mesh to which the operation can be applied, which makes the second list of the first
pub record CanPerform (sides : Sides) (nodes : List Node) (sites : List Site) (tris : List Tri) (n : ℕ) (op : Op) (removed new : List Tri) : Type 0 where
  pub mesh : Undivided
  pub parts : AreParts sides nodes sites tris mesh
  pub can : PassesWithName mesh n op
  pub change : IsChange mesh n op removed new

-- the live names of the mesh are names of the table, and stand where the mesh has them
pub record HasPlaces (nodes : List Node) (m : Undivided) : Type 0 where
  pub within : (k : ℕ) → IsLive m k → k < length nodes
  pub places : (k : ℕ) (p : Point) → point_of m.sites k ≡ Some p → place_at nodes k ≡ p
