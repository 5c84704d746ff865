-- The grammar of an `.ele` file: its triangles, or its first fault.
use Rattle.std.specs.Prelude.{◌≡◌, ℕ, ◌+◌, ◌-◌, ◌<◌, List, [], ◌∷◌, length, All, Result, Ok, Err, nat_le, nat_lt, ◌==◌, ◌&&◌, if◌then◌else◌}
use Rattle.pf_lex.specs.Text.{Word, TextLine, text_lines, lines_past}
use Rattle.tri_text.specs.declared.fault.TriErr.{TriErr}
use Rattle.tri_text.specs.declared.fault.TriErr.TheVariants as faults
use Rattle.row_text.specs.Rows.{◌>>=◌}
use Rattle.tri_text.specs.Reading.{natural_in, count_in, due_in, tri_rows}

-- three corners, each a place among so many vertices
abbrev pub IsTriangleOver : ℕ → List ℕ → Type 0
IsTriangleOver vertices corners = (length corners ≡ 3) × All (λ corner. corner < vertices) corners

-- the heading `triangles order`, and whatever follows: how many triangles there are
abbrev pub ele_heading_of : ℕ → List Word → Result ℕ TriErr
ele_heading_of line (triangles ∷ order ∷ more) = do
  count ← count_in 2097152 line triangles
  found ← natural_in line order
  if found == 3 then Ok count else Err (faults.Order found)
ele_heading_of line words = Err (faults.Short line)

-- a vertex's number less the base, which is its place among the vertices; where there is no such vertex it is Range
unfoldable pub corner_in : ℕ → ℕ → ℕ → Word → Result ℕ TriErr
corner_in base vertices line word = do
  number ← natural_in line word
  if nat_le base number && nat_lt number (base + vertices) then Ok (number - base) else Err (faults.Range line)

-- the words `number a b c`, and whatever follows: the triangle's corners
abbrev pub triangle_words : ℕ → ℕ → ℕ → ℕ → List Word → Result (List ℕ) TriErr
triangle_words base vertices due line (number ∷ first ∷ second ∷ third ∷ more) = do
  found ← due_in due line number
  a ← corner_in base vertices line first
  b ← corner_in base vertices line second
  c ← corner_in base vertices line third
  Ok (a ∷ b ∷ c ∷ [])
triangle_words base vertices due line words = Err (faults.Short line)

-- the line of the triangle whose number is due
abbrev pub triangle_of : ℕ → ℕ → ℕ → TextLine → Result (List ℕ) TriErr
triangle_of base vertices due line = triangle_words base vertices due line.line line.words

-- the triangles of a text's lines: the heading, one line per triangle, whose numbers begin with the base, and no
-- further line
abbrev pub triangles_in : ℕ → ℕ → ℕ → List TextLine → Result (List (List ℕ)) TriErr
triangles_in base vertices past [] = Err (faults.Short past)
triangles_in base vertices past (heading ∷ lines) = do
  count ← ele_heading_of heading.line heading.words
  tri_rows (triangle_of base vertices) past count base lines

-- the triangles of an `.ele` file over so many vertices, which are numbered from the base: the three corners of each,
-- as places among the vertices, counted from 0; or the first fault
unfoldable pub ele_read : ℕ → ℕ → List ℕ → Result (List (List ℕ)) TriErr
ele_read base vertices bytes = triangles_in base vertices (lines_past bytes) (text_lines bytes)
