-- The grammar of a `.node` file: its vertices, or its first fault.
use Rattle.std.specs.Prelude.{ℕ, ℤ, pos, neg_ℤ, ◌*ℤ◌, List, [], ◌∷◌, Result, Ok, Err, Bool, false, int_le, ◌==◌, ◌&&◌, if◌then◌else◌}
use Rattle.pf_geom.specs.declared.Point.{Point}
use Rattle.pf_lex.specs.Text.{Word, TextLine, text_lines, lines_past}
use Rattle.pf_lex.specs.Number.{natural_of, whole_of}
use Rattle.tri_text.specs.declared.fault.TriErr.{TriErr}
use Rattle.tri_text.specs.declared.fault.TriErr.TheVariants as faults
use Rattle.tri_text.specs.declared.node.Nodes.{Nodes}
use Rattle.row_text.specs.Rows.{◌>>=◌}
use Rattle.tri_text.specs.Reading.{number_at, natural_in, count_in, due_in, tri_rows}

-- the vertices of a file: the number of the first, and their points in order
pub record Vertices : Type 0 where
  pub base : ℕ
  pub points : List Point

-- the vertices that a `Nodes` holds
abbrev pub vertices_of : Nodes → Vertices
vertices_of nodes = record { base = nodes.base; points = nodes.points.items }

-- the heading `vertices dimension`, and whatever follows: how many vertices there are
abbrev pub node_heading_of : ℕ → List Word → Result ℕ TriErr
node_heading_of line (vertices ∷ dimension ∷ more) = do
  count ← count_in 1048576 line vertices
  found ← natural_in line dimension
  if found == 2 then Ok count else Err (faults.Dimension found)
node_heading_of line words = Err (faults.Short line)

-- the coordinate is at most 268,435,456 from 0
abbrev pub is_in_range : ℤ → Bool
is_in_range z = int_le (neg_ℤ (pos 268435456)) z && int_le z (pos 268435456)

-- a whole word, multiplied by the scale; out of range it is Range
unfoldable pub coordinate_in : ℕ → ℕ → Word → Result ℤ TriErr
coordinate_in scale line word = do
  z ← number_at line word.column (whole_of word.text)
  if is_in_range (z *ℤ pos scale) then Ok (z *ℤ pos scale) else Err (faults.Range line)

-- the words `number x y`, and whatever follows: the vertex's point
abbrev pub vertex_words : ℕ → ℕ → ℕ → List Word → Result Point TriErr
vertex_words scale due line (number ∷ across ∷ up ∷ more) = do
  found ← due_in due line number
  x ← coordinate_in scale line across
  y ← coordinate_in scale line up
  Ok record { x = x; y = y }
vertex_words scale due line words = Err (faults.Short line)

-- the line of the vertex whose number is due
abbrev pub vertex_of : ℕ → ℕ → TextLine → Result Point TriErr
vertex_of scale due line = vertex_words scale due line.line line.words

-- the result is the number 1
abbrev pub is_one : {E : Type 0} → Result ℕ E → Bool
is_one (Ok n) = n == 1
is_one (Err e) = false

-- a line's first word is the number 1
abbrev pub begins_with_one : List Word → Bool
begins_with_one [] = false
begins_with_one (word ∷ words) = is_one (natural_of word.text)

-- the number that is due for the first vertex: 1 where its line begins with 1, and else 0
unfoldable pub base_of : List TextLine → ℕ
base_of [] = 0
base_of (line ∷ lines) = if begins_with_one line.words then 1 else 0

-- so many vertices, a line for each, and no further line; with no vertices the base is 0
unfoldable pub vertex_rows : ℕ → ℕ → ℕ → List TextLine → Result Vertices TriErr
vertex_rows scale past count lines = do
  points ← tri_rows (vertex_of scale) past count (base_of lines) lines
  Ok record { base = base_of lines; points = points }

-- the vertices of a text's lines: the heading, and the vertices that it says
abbrev pub vertices_in : ℕ → ℕ → List TextLine → Result Vertices TriErr
vertices_in scale past [] = Err (faults.Short past)
vertices_in scale past (heading ∷ lines) = do
  count ← node_heading_of heading.line heading.words
  vertex_rows scale past count lines

-- the vertices of a `.node` file, each coordinate multiplied by the scale; or the first fault
unfoldable pub node_read : ℕ → List ℕ → Result Vertices TriErr
node_read scale bytes = vertices_in scale (lines_past bytes) (text_lines bytes)
