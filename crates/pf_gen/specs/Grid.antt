-- The grid with n cells a side, as the lists that a mesh is built of. A cell is cut into two triangles.
use Rattle.std.specs.Prelude.{ℕ, ◌+◌, ◌-◌, ◌*◌, ◌/◌, ◌%◌, List, [], ◌∷◌, map, flat_map, pos}
use Rattle.std.specs.List.{range_with_len}
use Rattle.pf_geom.specs.declared.Point.{Point}
use Rattle.pf_model.specs.declared.Band.{Band}
use Rattle.pf_model.specs.Build.{default_band}

-- the node of a name: names count along the rows of nodes, from the lowest row on, and neighbours are 64 apart
abbrev pub grid_point : ℕ → ℕ → Point
grid_point n name = record { x = pos (64 * (name % (n + 1))); y = pos (64 * (name / (n + 1))) }

-- the nodes by rising name
abbrev pub grid_points : ℕ → List Point
grid_points n = map (grid_point n) (range_with_len 0 ((n + 1) * (n + 1)))

-- the name of a cell's lower left corner: cells count along the rows of cells, from the lowest row on
abbrev pub corner_of : ℕ → ℕ → ℕ
corner_of n cell = (cell / n) * (n + 1) + cell % n

-- the two triangles of the cell with this lower left corner: below its diagonal and above it
abbrev pub lower_half : ℕ → ℕ → List ℕ
lower_half n p = p ∷ (p + 1) ∷ (p + (n + 2)) ∷ []

abbrev pub upper_half : ℕ → ℕ → List ℕ
upper_half n p = p ∷ (p + (n + 2)) ∷ (p + (n + 1)) ∷ []

abbrev pub halves : ℕ → ℕ → List (List ℕ)
halves n cell = lower_half n (corner_of n cell) ∷ upper_half n (corner_of n cell) ∷ []

-- the triangles, cell by cell
abbrev pub grid_triangles : ℕ → List (List ℕ)
grid_triangles n = flat_map (halves n) (range_with_len 0 (n * n))

-- the chunk of a cell: the rows of cells are dealt out to four strips
abbrev pub strip_of : ℕ → ℕ → ℕ
strip_of n cell = 4 * (cell / n) / n

-- the owners of the triangles, in their order
abbrev pub grid_owners : ℕ → List ℕ
grid_owners n = flat_map (λ cell. strip_of n cell ∷ strip_of n cell ∷ []) (range_with_len 0 (n * n))

-- how many chunks there are: one more than the greatest owner
abbrev pub grid_chunks : ℕ → ℕ
grid_chunks n = 4 * (n - 1) / n + 1

-- the bands: the lower left quarter's quarter is to be finer than the rest
abbrev pub grid_bands : ℕ → List Band
grid_bands n = record { xlo = pos 0; ylo = pos 0; xhi = pos (16 * n); yhi = pos (16 * n); min2 = pos 256; max2 = pos 2048 } ∷ record default_band { max2 = pos 8192 } ∷ []
