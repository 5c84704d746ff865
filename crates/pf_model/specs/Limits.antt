-- The limits of meshes.
use Rattle.std.specs.Prelude.{ℕ}

-- the most names that nodes may have: those that were read, and one for each operation
abbrev pub most_names : ℕ
most_names = 1048576

-- the most triangles that may be read
abbrev pub most_triangles : ℕ
most_triangles = 2097152

-- the most triangles at a node that is contracted
abbrev pub most_spokes : ℕ
most_spokes = 60
