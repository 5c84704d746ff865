-- The journal: the entries that a text of it says.
use Rattle.std.specs.Prelude.{ℕ, ◌+◌, Bool, false, ◌&&◌, ◌==◌, if◌then◌else◌, List, [], ◌∷◌, Result, Ok, Err, codes}
use Rattle.std.specs.Str.{bytes_eq}
use Rattle.pf_lex.specs.Text.{Word, TextLine, text_lines, lines_past}
use Rattle.row_text.specs.Rows.{◌>>=◌, at_line_end, at_text_end, begins_with, natural_within}
use Rattle.pf_model.specs.declared.Op.{Op}
use Rattle.pf_model.specs.declared.Op.TheVariants as op
use Rattle.pf_model.specs.declared.Entry.{Entry}
use Rattle.pf_model.specs.Ends.{normal_of}
use Rattle.journal_text.specs.declared.step.Kind.{Kind}
use Rattle.journal_text.specs.declared.step.Kind.TheVariants as kind
use Rattle.journal_text.specs.declared.fault.JourErr.{JourErr}
use Rattle.journal_text.specs.declared.fault.JourErr.TheVariants as fault

-- a natural word's number, which is at most this; any other word is refused
abbrev pub number_at : ℕ → ℕ → Word → Result ℕ JourErr
number_at most line word = natural_within (fault.Word line) most word

-- the greatest number of a chunk
abbrev pub chunk_limit : ℕ
chunk_limit = 65535

-- the greatest ticket, name and count
abbrev pub number_limit : ℕ
number_limit = 4294967295

-- the number is the one that is due, as the ticket of an entry and the count of entries are
abbrev pub due_at : ℕ → ℕ → ℕ → Result ℕ JourErr
due_at line due number = if number == due then Ok number else Err (fault.Ticket line due number)

-- the kind of operation that a word says
abbrev pub kind_at : ℕ → Word → Result Kind JourErr
kind_at line word =
    if bytes_eq word.text (codes "flip") then Ok kind.Flip
    else if bytes_eq word.text (codes "bisect") then Ok kind.Bisect
    else if bytes_eq word.text (codes "contract") then Ok kind.Contract
    else Err (fault.Word line word.column)

-- the operation of a kind with two names
abbrev pub op_of : Kind → ℕ → ℕ → Op
op_of kind.Flip a b = op.Flip a b
op_of kind.Bisect a b = op.Bisect a b
op_of kind.Contract a b = op.Contract a b

-- the entry that a line says, below so many others: its operation in normal form, so that the names of
-- a flip or a bisection are turned round where the lower one stands second
unfoldable pub entry_on : ℕ → ℕ → List Word → Result Entry JourErr
entry_on due line (ticket ∷ chunk ∷ kind ∷ a ∷ b ∷ others) = do
  number ← number_at number_limit line ticket
  ticket ← due_at line due number
  chunk ← number_at chunk_limit line chunk
  kind ← kind_at line kind
  a ← number_at number_limit line a
  b ← number_at number_limit line b
  at_line_end (fault.Word line) others (Ok record { ticket = ticket; chunk = chunk; op = normal_of (op_of kind a b) })
entry_on due line words = Err (fault.Short line)

-- the count that the end line says, below so many entries
unfoldable pub end_on : ℕ → ℕ → List Word → Result ℕ JourErr
end_on due line (name ∷ count ∷ others) = do
  number ← number_at number_limit line count
  count ← due_at line due number
  at_line_end (fault.Word line) others (Ok count)
end_on due line words = Err (fault.Short line)

-- the line is the end line
abbrev pub is_end : List Word → Bool
is_end words = begins_with (codes "end") words

-- the entries that the lines say, below so many others, with the end line below them; the text's line after its last is `past`
unfoldable pub entries_on : ℕ → ℕ → List TextLine → Result (List Entry) JourErr
entries_on past due [] = Err (fault.Short past)
entries_on past due (line ∷ lines) =
    if is_end line.words
    then (do
      count ← end_on due line.line line.words
      at_text_end fault.Extra lines (Ok []))
    else (do
      entry ← entry_on due line.line line.words
      entries ← entries_on past (due + 1) lines
      Ok (entry ∷ entries))

-- the words are the journal's heading
abbrev pub is_head : List Word → Bool
is_head (name ∷ what ∷ version ∷ []) = bytes_eq name.text (codes "parfum") && bytes_eq what.text (codes "journal") && bytes_eq version.text (codes "1")
is_head words = false

-- the entries below the heading
abbrev pub journal_on : ℕ → List TextLine → Result (List Entry) JourErr
journal_on past [] = Err fault.Head
journal_on past (head ∷ lines) = if is_head head.words then entries_on past 0 lines else Err fault.Head

-- the entries that a text says, or the text's first fault
unfoldable pub journal_of : List ℕ → Result (List Entry) JourErr
journal_of bytes = journal_on (lines_past bytes) (text_lines bytes)
