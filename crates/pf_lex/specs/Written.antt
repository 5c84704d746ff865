-- How a text is written: words parted by one space, each line ended by one newline.
use Rattle.std.specs.Prelude.{ℕ, ◌+◌, Bool, ◌&&◌, not, List, [], ◌∷◌, ◌++◌}
use Rattle.std.specs.List.{flat_map, join_with_byte, list_all}
use Rattle.pf_lex.specs.Text.{TextLine, is_nonempty, is_newline, is_word_byte, placed}

-- a byte that parts no words, begins no comment and ends no line
abbrev pub is_plain_byte : ℕ → Bool
is_plain_byte byte = is_word_byte byte && not (is_newline byte)

-- a word that is read as it is written
abbrev pub is_plain_word : List ℕ → Bool
is_plain_word word = is_nonempty word && list_all is_plain_byte word

-- one or more such words
abbrev pub is_plain_row : List (List ℕ) → Bool
is_plain_row row = is_nonempty row && list_all is_plain_word row

-- a line with these words
abbrev pub written_line : List (List ℕ) → List ℕ
written_line row = join_with_byte 32 row ++ 10 ∷ []

-- a text with these lines
abbrev pub written_text : List (List (List ℕ)) → List ℕ
written_text rows = flat_map written_line rows

-- these lines with their words, where the first has the number given
abbrev pub written_lines : ℕ → List (List (List ℕ)) → List TextLine
written_lines number [] = []
written_lines number (row ∷ rows) = record { line = number; words = placed 1 row } ∷ written_lines (number + 1) rows
