-- What a text is: its lines, and the words of each line with their places.
use Rattle.std.specs.Prelude.{ℕ, ◌+◌, Bool, true, false, ◌==◌, ◌||◌, ◌&&◌, not, if◌then◌else◌, List, [], ◌∷◌, length, filter}
use Rattle.std.specs.List.{slice_split, before_first}

-- a word: its bytes, and the column of its first byte, counted in bytes from 1
pub record Word : Type 0 where
  pub text : List ℕ
  pub column : ℕ

-- a line: its number, counted from 1, and its words from left to right
pub record TextLine : Type 0 where
  pub line : ℕ
  pub words : List Word

-- there is an element
abbrev pub is_nonempty : {X : Type 0} → List X → Bool
is_nonempty [] = false
is_nonempty (x ∷ xs) = true

-- a newline ends a line
abbrev pub is_newline : ℕ → Bool
is_newline byte = byte == 10

-- a `#` begins a comment, which lasts to the end of its line
abbrev pub is_comment_mark : ℕ → Bool
is_comment_mark byte = byte == 35

-- space, tab and carriage return part words
abbrev pub is_gap : ℕ → Bool
is_gap byte = byte == 32 || byte == 9 || byte == 13

-- the other bytes stand in words, where no comment has begun
abbrev pub is_word_byte : ℕ → Bool
is_word_byte byte = not (is_gap byte) && not (is_comment_mark byte)

-- the pieces without the last one, where that is empty
abbrev pub without_empty_last : List (List ℕ) → List (List ℕ)
without_empty_last [] = []
without_empty_last (piece ∷ []) = if is_nonempty piece then piece ∷ [] else []
without_empty_last (piece ∷ next ∷ pieces) = piece ∷ without_empty_last (next ∷ pieces)

-- the lines of a text, which is cut at its newlines: what follows the last newline is a line where it is not empty
unfoldable pub lines_of : List ℕ → List (List ℕ)
lines_of bytes = without_empty_last (slice_split is_newline bytes)

-- pieces that stand side by side with one byte between them, each with the column at which it begins
abbrev pub placed : ℕ → List (List ℕ) → List Word
placed column [] = []
placed column (piece ∷ pieces) = record { text = piece; column = column } ∷ placed (column + length piece + 1) pieces

-- the words of what begins at a column of a line: the pieces between gaps that are not empty, up to a comment
unfoldable pub words_from : ℕ → List ℕ → List Word
words_from column bytes = filter (λ word. is_nonempty word.text) (placed column (slice_split is_gap (before_first is_comment_mark bytes)))

-- the words of a line
abbrev pub words_of : List ℕ → List Word
words_of line = words_from 1 line

-- each line with its number, the first having the one given
abbrev pub numbered : ℕ → List (List ℕ) → List TextLine
numbered number [] = []
numbered number (line ∷ lines) = record { line = number; words = words_of line } ∷ numbered (number + 1) lines

-- the lines of a text that have a word, where the first line has the number given
unfoldable pub text_lines_from : ℕ → List ℕ → List TextLine
text_lines_from number bytes = filter (λ line. is_nonempty line.words) (numbered number (lines_of bytes))

-- the lines of a text that have a word
abbrev pub text_lines : List ℕ → List TextLine
text_lines bytes = text_lines_from 1 bytes

-- the number of the line after the last, where the first line has the number given
unfoldable pub lines_past_from : ℕ → List ℕ → ℕ
lines_past_from number bytes = number + length (lines_of bytes)

-- the number of the line after the last
abbrev pub lines_past : List ℕ → ℕ
lines_past bytes = lines_past_from 1 bytes

-- what is left of a text that is gone over: the lines with a word that are still to come, and the number of the line
-- after the last one of the whole text
pub record TextLeft : Type 0 where
  pub left : List TextLine
  pub past : ℕ
