-- The partition: what a text of it says, and the text that is written of a mesh's triangles.
use Rattle.std.specs.Prelude.{ℕ, ◌+◌, nat_le, if◌then◌else◌, List, [], ◌∷◌, Result, Ok, Err, max, decimal, map}
use Rattle.pf_lex.specs.Text.{Word, TextLine, text_lines, lines_past}
use Rattle.pf_lex.specs.Number.{number_limit}
use Rattle.pf_model.specs.declared.Tri.{Tri}
use Rattle.pf_model.specs.Texts.{lines_text}
use Rattle.row_text.specs.Rows.{◌>>=◌, at_line_end, natural_within, rows_of}
use Rattle.table_text.specs.declared.fault.TableErr.{TableErr}
use Rattle.table_text.specs.declared.fault.TableErr.TheVariants as fault

-- the chunk that owns each triangle, and the number of chunks
pub record PartTable : Type 0 where
  pub owners : List ℕ
  pub chunks : ℕ

-- the greatest number of a chunk
abbrev pub chunk_limit : ℕ
chunk_limit = 63

-- a number as the number of a chunk
abbrev pub chunk_at : ℕ → ℕ → Result ℕ TableErr
chunk_at line number = if nat_le number chunk_limit then Ok number else Err (fault.Chunk line number)

-- the owner that a line names: one word, and no further one
unfoldable pub owner_on : ℕ → List Word → Result ℕ TableErr
owner_on line [] = Err (fault.Short line)
owner_on line (word ∷ others) = do
  number ← natural_within (fault.Word line) number_limit word
  owner ← chunk_at line number
  at_line_end (fault.Word line) others (Ok owner)

-- the same of a line
abbrev pub line_owner : ℕ → TextLine → Result ℕ TableErr
line_owner _ line = owner_on line.line line.words

-- the owners of so many triangles: one line for each, and no further line
abbrev pub owners_on : ℕ → ℕ → List TextLine → Result (List ℕ) TableErr
owners_on past triangles lines = rows_of fault.Short fault.Extra line_owner past triangles 0 lines

-- one more than the greatest chunk named, and 1 where there are no triangles
abbrev pub chunks_among : List ℕ → ℕ
chunks_among [] = 1
chunks_among (owner ∷ owners) = max (owner + 1) (chunks_among owners)

-- the partition of so many triangles that lines say
unfoldable pub parts_on : ℕ → ℕ → List TextLine → Result PartTable TableErr
parts_on past triangles lines = do
  owners ← owners_on past triangles lines
  Ok record { owners = owners; chunks = chunks_among owners }

-- the partition of so many triangles that a text says, or the text's first fault
unfoldable pub part_of : ℕ → List ℕ → Result PartTable TableErr
part_of triangles bytes = parts_on (lines_past bytes) triangles (text_lines bytes)

-- the words of a triangle's line
abbrev pub owner_words : Tri → List (List ℕ)
owner_words tri = decimal tri.owner ∷ []

-- the text of the triangles' owners, one on each line
unfoldable pub part_text_of : List Tri → List ℕ
part_text_of tris = lines_text (map owner_words tris)
