-- The size table: the bands that a text of it says.
use Rattle.std.specs.Prelude.{ℕ, ◌+◌, ◌^◌, ℤ, pos, neg_ℤ, Bool, ◌&&◌, nat_lt, int_le, if◌then◌else◌, List, [], ◌∷◌, Result, Ok, Err, codes}
use Rattle.pf_lex.specs.Text.{Word, TextLine, text_lines}
use Rattle.pf_lex.specs.Number.{is_natural, natural_value, is_whole, whole_value}
use Rattle.pf_geom.specs.declared.Point.{Point}
use Rattle.pf_model.specs.declared.Band.{Band}
use Rattle.row_text.specs.Rows.{◌>>=◌, at_line_end, at_text_end, begins_with}
use Rattle.table_text.specs.declared.size.Rectangle.{Rectangle}
use Rattle.table_text.specs.declared.size.LengthRange.{LengthRange}
use Rattle.table_text.specs.declared.fault.TableErr.{TableErr}
use Rattle.table_text.specs.declared.fault.TableErr.TheVariants as fault

-- the greatest magnitude of a corner's coordinate
abbrev pub corner_limit : ℕ
corner_limit = 268435456

-- the greatest squared length
abbrev pub length_limit : ℕ
length_limit = 2 ^ 60

-- the number of rows that may stand above the default line
abbrev pub rows_limit : ℕ
rows_limit = 1023

-- a whole word's number, however large; any other word is refused
abbrev pub whole_at : ℕ → Word → Result ℤ TableErr
whole_at line word = if is_whole word.text then Ok (whole_value word.text) else Err (fault.Word line word.column)

-- a natural word's number, however large; any other word is refused
abbrev pub natural_at : ℕ → Word → Result ℤ TableErr
natural_at line word = if is_natural word.text then Ok (pos (natural_value word.text)) else Err (fault.Word line word.column)

-- the coordinate is in range
abbrev pub is_coordinate : ℤ → Bool
is_coordinate z = int_le (neg_ℤ (pos corner_limit)) z && int_le z (pos corner_limit)

-- both coordinates of the corner are in range
abbrev pub is_corner : Point → Bool
is_corner p = is_coordinate p.x && is_coordinate p.y

-- the corners are in range, and the low one is neither right of the high one nor above it
abbrev pub is_rectangle : Rectangle → Bool
is_rectangle r = is_corner r.low && is_corner r.high && int_le r.low.x r.high.x && int_le r.low.y r.high.y

-- the squared lengths are in range, and the least is not above the greatest
abbrev pub is_length_range : LengthRange → Bool
is_length_range l = int_le l.min2 (pos length_limit) && int_le l.max2 (pos length_limit) && int_le l.min2 l.max2

-- the corner that two words say
abbrev pub corner_at : ℕ → Word → Word → Result Point TableErr
corner_at line x y = do
  x ← whole_at line x
  y ← whole_at line y
  Ok record { x = x; y = y }

-- the rectangle that four words say
abbrev pub rectangle_at : ℕ → Word → Word → Word → Word → Result Rectangle TableErr
rectangle_at line xlo ylo xhi yhi = do
  low ← corner_at line xlo ylo
  high ← corner_at line xhi yhi
  Ok record { low = low; high = high }

-- the squared lengths that two words say
abbrev pub length_range_at : ℕ → Word → Word → Result LengthRange TableErr
length_range_at line min2 max2 = do
  min2 ← natural_at line min2
  max2 ← natural_at line max2
  Ok record { min2 = min2; max2 = max2 }

-- the band of a rectangle with these squared lengths
abbrev pub band_of : Rectangle → LengthRange → Band
band_of r l = record { xlo = r.low.x; ylo = r.low.y; xhi = r.high.x; yhi = r.high.y; min2 = l.min2; max2 = l.max2 }

-- the band, where the test passes
abbrev pub band_where : Bool → ℕ → Band → Result Band TableErr
band_where passes line band = if passes then Ok band else Err (fault.Band line)

-- the band of a row that stands below so many others
unfoldable pub row_on : ℕ → ℕ → List Word → Result Band TableErr
row_on above line (xlo ∷ ylo ∷ xhi ∷ yhi ∷ min2 ∷ max2 ∷ others) = do
  rectangle ← rectangle_at line xlo ylo xhi yhi
  lengths ← length_range_at line min2 max2
  at_line_end (fault.Word line) others (band_where (is_rectangle rectangle && is_length_range lengths && nat_lt above rows_limit) line (band_of rectangle lengths))
row_on above line words = Err (fault.Short line)

-- the rectangle that holds every point
abbrev pub everywhere : Rectangle
everywhere = record { low = record { x = neg_ℤ (pos corner_limit); y = neg_ℤ (pos corner_limit) }; high = record { x = pos corner_limit; y = pos corner_limit } }

-- the band of the default line, whose first word is `default`
unfoldable pub default_on : ℕ → List Word → Result Band TableErr
default_on line (name ∷ min2 ∷ max2 ∷ others) = do
  lengths ← length_range_at line min2 max2
  at_line_end (fault.Word line) others (band_where (is_length_range lengths) line (band_of everywhere lengths))
default_on line words = Err (fault.Short line)

-- the line is the default line
abbrev pub is_default : List Word → Bool
is_default words = begins_with (codes "default") words

-- the bands of the rows that stand below so many others, and of the default line, which is the last
unfoldable pub bands_on : ℕ → List TextLine → Result (List Band) TableErr
bands_on above [] = Err fault.NoDefault
bands_on above (line ∷ lines) =
    if is_default line.words
    then (do
      band ← default_on line.line line.words
      at_text_end fault.Extra lines (Ok (band ∷ [])))
    else (do
      band ← row_on above line.line line.words
      bands ← bands_on (above + 1) lines
      Ok (band ∷ bands))

-- the bands that a text says, or the text's first fault
unfoldable pub size_of : List ℕ → Result (List Band) TableErr
size_of bytes = bands_on 0 (text_lines bytes)
