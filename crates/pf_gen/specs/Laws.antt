-- What a grid is, as statements.
use Rattle.std.specs.Prelude.{◌≡◌, ℕ, ◌+◌, ◌*◌, ◌<◌, ◌≤◌, Ok, length, map}
use Rattle.std.specs.List.{All}
use Rattle.pf_geom.specs.Plane.{IsInRange}
use Rattle.pf_model.specs.Conforming.{HasDefault}
use Rattle.pf_model.specs.Build.{built, mesh_with, turned_left}
use Rattle.pf_gen.specs.Grid.{grid_points, grid_triangles, grid_owners, grid_chunks, grid_bands}

-- a mesh is built of a grid's points and triangles, without a fault
abbrev pub GridIsBuilt : Type 0
GridIsBuilt = (n : ℕ) → 0 < n → built (grid_points n) (grid_triangles n) ≡ Ok (mesh_with (grid_points n) (map (turned_left (grid_points n)) (grid_triangles n)))

-- how long the lists are, that the points are in range, that each owner is a chunk, and that the last band holds every point
pub record AreFit (n : ℕ) : Type 0 where
  pub points : length (grid_points n) ≡ (n + 1) * (n + 1)
  pub triangles : length (grid_triangles n) ≡ 2 * (n * n)
  pub owners : length (grid_owners n) ≡ 2 * (n * n)
  pub in_range : All IsInRange (grid_points n)
  pub owned : All (λ owner. owner < grid_chunks n) (grid_owners n)
  pub default : HasDefault (grid_bands n)

-- the lists of a grid of up to 1,023 cells a side are fit for a mesh
abbrev pub GridIsFit : Type 0
GridIsFit = (n : ℕ) → 0 < n → n ≤ 1023 → AreFit n
