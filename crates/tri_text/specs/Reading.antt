-- What both kinds of file have in common: numbers, headings and numbered rows. Each step gives a value or the first fault. No step gives `Memory`, which no text is the cause of.
use Rattle.std.specs.Prelude.{◌≡◌, ℕ, List, Result, Ok, Err, nat_le, ◌==◌, if◌then◌else◌}
use Rattle.pf_lex.specs.Text.{Word, TextLine}
use Rattle.pf_lex.specs.Number.{natural_of}
use Rattle.pf_lex.specs.declared.number.NumFault.{NumFault}
use Rattle.pf_lex.specs.declared.number.NumFault.TheVariants.{NotWhole, TooLarge}
use Rattle.row_text.specs.Rows.{◌>>=◌, rows_of}
use Rattle.tri_text.specs.declared.fault.TriErr.{TriErr}
use Rattle.tri_text.specs.declared.fault.TriErr.TheVariants as faults

-- the error is the fault of the reading, unless memory ran out
abbrev pub Fails : {Y : Type 0} → TriErr → Result Y TriErr → Type 0
Fails faults.Memory read = Unit {0}
Fails e read = read ≡ Err e

-- what a call returned, seen by view, is what the reading gives, unless memory ran out
abbrev pub Gives : {X Y : Type 0} → (X → Y) → Result X TriErr → Result Y TriErr → Type 0
Gives view (Ok x) read = read ≡ Ok (view x)
Gives view (Err e) read = Fails e read

-- a number that was read at a place; a word that is no number is Word there, and a number above 2^62 is Range
abbrev pub number_at : {X : Type 0} → ℕ → ℕ → Result X NumFault → Result X TriErr
number_at line column (Ok x) = Ok x
number_at line column (Err NotWhole) = Err (faults.Word line column)
number_at line column (Err TooLarge) = Err (faults.Range line)

-- a natural word of a line
unfoldable pub natural_in : ℕ → Word → Result ℕ TriErr
natural_in line word = number_at line word.column (natural_of word.text)

-- a natural word that says how many rows there are; too many rows are TooMany
unfoldable pub count_in : ℕ → ℕ → Word → Result ℕ TriErr
count_in most line word = do
  count ← natural_in line word
  if nat_le count most then Ok count else Err (faults.TooMany count)

-- a natural word that says a row's number; any but the one that is due is Number
unfoldable pub due_in : ℕ → ℕ → Word → Result ℕ TriErr
due_in due line word = do
  found ← natural_in line word
  if found == due then Ok found else Err (faults.Number line due found)

-- so many rows, whose numbers rise by one from the one given, and no further line
abbrev pub tri_rows : {X : Type 0} → (ℕ → TextLine → Result X TriErr) → ℕ → ℕ → ℕ → List TextLine → Result (List X) TriErr
tri_rows row past count number lines = rows_of faults.Short faults.Extra row past count number lines
