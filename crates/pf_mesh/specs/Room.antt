-- Room for a mesh that is built.
use Rattle.std.specs.Prelude.{◌≡◌, ℕ, ◌*◌, ◌≤◌, List, [], vec_capacity}
use Rattle.indexmap.specs.IndexMap.{spare}
use Rattle.pf_geom.specs.declared.Point.{Point}
use Rattle.pf_edges.specs.Table.{IsEmptyTable}
use Rattle.pf_mesh.specs.declared.building.Room.{Room}

-- an empty table of these points, and an empty list, with room for so many triangles
pub record IsRoomFor (points : List Point) (triangles : ℕ) (room : Room) : Type 0 where
  pub empty : IsEmptyTable room.table.sides room.table.nodes.items points
  pub sides : 3 * triangles ≤ spare room.table.sides
  pub none : room.listed.items ≡ []
  pub capacity : triangles ≤ vec_capacity room.listed
