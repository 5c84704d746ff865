-- Laws of the tables' formats.
use Rattle.std.specs.Prelude.{◌≡◌, ◌≤◌, List, length, map, All, Ok}
use Rattle.pf_model.specs.declared.Tri.{Tri}
use Rattle.table_text.specs.Part.{chunk_limit, chunks_among, part_of, part_text_of}

-- the text of triangles' owners, where none is above 63, says these owners, and one more than the greatest of them as the number of chunks
abbrev pub PartReadsAgain : Type 0
PartReadsAgain = (tris : List Tri) → All (λ tri. tri.owner ≤ chunk_limit) tris → part_of (length tris) (part_text_of tris) ≡ Ok record { owners = map (λ tri. tri.owner) tris; chunks = chunks_among (map (λ tri. tri.owner) tris) }
