-- A mesh by its parts.
use Rattle.std.specs.Prelude.{ℕ, ◌/◌, min, nat_le, if◌then◌else◌}
use Rattle.pf_model.specs.Mesh.{Undivided}

-- what a mesh is to its callers: the undivided mesh, and the number of operations for which there is room
pub record MeshValue : Type 0 where
  pub mesh : Undivided
  pub spare : ℕ

-- the number of operations for which there is room: for any new name among those of the nodes, and for 60 triangles, each of three
-- sides, and one site an operation
abbrev pub room_of : ℕ → ℕ → ℕ → ℕ → ℕ
room_of names sides tris sites = if nat_le 1048576 names then min (sides / 180) (min (tris / 60) sites) else 0
