-- How texts of rows are read: steps that each give a value or the text's first fault. A fault is a function of the place that it
-- names. No step gives want of memory, which no text is the cause of.
use Rattle.std.specs.Prelude.{◌≡◌, ℕ, zero, suc, ◌+◌, Bool, false, ◌&&◌, nat_le, if◌then◌else◌, List, [], ◌∷◌, Result, Ok, Err}
use Rattle.std.specs.Str.{bytes_eq}
use Rattle.pf_lex.specs.Text.{Word, TextLine}
use Rattle.pf_lex.specs.Number.{is_natural, natural_value}

infixl 10 ◌>>=◌
-- a step, and what comes after it where it finds no fault
abbrev pub ◌>>=◌ : {A B E : Type 0} → Result A E → (A → Result B E) → Result B E
Ok x >>= next = next x
Err e >>= next = Err e

-- the value of a line that has no further word; the fault names the column of the first that is left
abbrev pub at_line_end : {E A : Type 0} → (ℕ → E) → List Word → Result A E → Result A E
at_line_end refused [] value = value
at_line_end refused (word ∷ others) value = Err (refused word.column)

-- the value of a text that has no further line; the fault names the first that is left
abbrev pub at_text_end : {E A : Type 0} → (ℕ → E) → List TextLine → Result A E → Result A E
at_text_end extra [] value = value
at_text_end extra (line ∷ lines) value = Err (extra line.line)

-- the line begins with this word
abbrev pub begins_with : List ℕ → List Word → Bool
begins_with text [] = false
begins_with text (word ∷ others) = bytes_eq word.text text

-- a natural word's number, which is at most this; any other word is refused, at its column
abbrev pub natural_within : {E : Type 0} → (ℕ → E) → ℕ → Word → Result ℕ E
natural_within refused most word = if is_natural word.text && nat_le (natural_value word.text) most then Ok (natural_value word.text) else Err (refused word.column)

-- so many rows, numbered one after another from the number given, and no further line; where a row is missing, the line after
-- the last is short
abbrev pub rows_of : {X E : Type 0} → (ℕ → E) → (ℕ → E) → (ℕ → TextLine → Result X E) → ℕ → ℕ → ℕ → List TextLine → Result (List X) E
rows_of short extra row past zero number lines = at_text_end extra lines (Ok [])
rows_of short extra row past (suc more) number [] = Err (short past)
rows_of short extra row past (suc more) number (line ∷ lines) = do
  first ← row number line
  others ← rows_of short extra row past more (number + 1) lines
  Ok (first ∷ others)

-- the error is the text's fault; only of a text without one it is want of memory
abbrev pub Refuses : {Y E : Type 0} → E → E → Result Y E → Type 0
Refuses memory e (Ok y) = e ≡ memory
Refuses memory e (Err fault) = e ≡ fault

-- what a call returned, seen by view, is what the text says, unless there was no memory for that
abbrev pub Reads : {X Y E : Type 0} → E → (X → Y) → Result X E → Result Y E → Type 0
Reads memory view (Ok x) said = said ≡ Ok (view x)
Reads memory view (Err e) said = Refuses memory e said
