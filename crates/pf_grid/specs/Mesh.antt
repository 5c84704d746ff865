-- The grid with n cells a side, as a mesh.
use Rattle.std.specs.Prelude.{ℕ, map}
use Rattle.pf_model.specs.Build.{mesh_with, turned_left}
use Rattle.pf_model.specs.Tables.{with_tables_of}
use Rattle.pf_model.specs.Mesh.{Undivided}
use Rattle.pf_gen.specs.Grid.{grid_points, grid_triangles, grid_owners, grid_chunks, grid_bands}

-- the mesh of a grid's points and triangles, with its owners and bands
abbrev pub grid_mesh : ℕ → Undivided
grid_mesh n = with_tables_of (grid_triangles n) (grid_owners n) (grid_chunks n) (grid_bands n)
    (mesh_with (grid_points n) (map (turned_left (grid_points n)) (grid_triangles n)))
