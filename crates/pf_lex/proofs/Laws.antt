-- What a text, a line and a number are when they are read again.
use Rattle.std.proofs.Common.{◌≡◌, ℕ, ◌+◌, ◌<◌, Bool, true, false, not, ◌&&◌, List, [], ◌∷◌, ◌++◌, length, refl, ap, sym, add-zero, ◌∙◌, arith}
use Rattle.std.specs.List.{prefix_len, before_first, after_first, list_all, flat_map, join_with_byte}
use Rattle.std.proofs.lemmas.List.{append-nil}
use mathlib.Core.List.{append_assoc}
use Rattle.std.proofs.Math.Seq.{take-append_seam, drop-append_seam}
use Rattle.pf_lex.specs.Text.{is_nonempty, is_newline, is_word_byte, placed, lines_of, words_from, text_lines_from, text_lines, lines_past_from}
use Rattle.pf_lex.specs.Written.{is_plain_byte, is_plain_word, is_plain_row, written_line, written_text, written_lines}
use Rattle.pf_lex.proofs.RunLemmas.{before_first-no, before_first-yes, after_first-no, after_first-yes}
use Rattle.pf_lex.proofs.WordLemmas.{words_from-nil, words_from-gap, words_from-word}
use Rattle.pf_lex.proofs.LineLemmas.{lines_of-nil, lines_of-cons, text_lines_from-nil, text_lines_from-word, lines_past_from-nil, lines_past_from-cons}

both_left : (a b : Bool) → (a && b) ≡ true → a ≡ true
both_left true b h = refl
both_left false b h = h

both_right : (a b : Bool) → (a && b) ≡ true → b ≡ true
both_right true b h = h
both_right false b h = absurd (cc)

-- lines

-- no byte of the line is a newline
abbrev pub is_one_line : List ℕ → Bool
is_one_line line = list_all (λ byte. not (is_newline byte)) line

no_newline : (x : ℕ) (b : Bool) → is_newline x ≡ b → not b ≡ true → is_newline x ≡ false
no_newline x true e h = absurd (cc)
no_newline x false e h = e

before-ended : (line rest : List ℕ) → is_one_line line ≡ true → before_first is_newline (line ++ 10 ∷ rest) ≡ line
before-ended [] rest one = before_first-yes is_newline 10 rest refl
before-ended (x ∷ xs) rest one =
    let here : is_newline x ≡ false = no_newline x (is_newline x) refl (both_left (not (is_newline x)) (is_one_line xs) one) in
    before_first-no is_newline x (xs ++ 10 ∷ rest) here
    ∙ ap (λ ys. x ∷ ys) (before-ended xs rest (both_right (not (is_newline x)) (is_one_line xs) one))

after-ended : (line rest : List ℕ) → is_one_line line ≡ true → after_first is_newline (line ++ 10 ∷ rest) ≡ rest
after-ended [] rest one = after_first-yes is_newline 10 rest refl
after-ended (x ∷ xs) rest one =
    let here : is_newline x ≡ false = no_newline x (is_newline x) refl (both_left (not (is_newline x)) (is_one_line xs) one) in
    after_first-no is_newline x (xs ++ 10 ∷ rest) here ∙ after-ended xs rest (both_right (not (is_newline x)) (is_one_line xs) one)

some-ended : (line rest : List ℕ) → 0 < length (line ++ 10 ∷ rest)
some-ended [] rest = omega arith
some-ended (x ∷ xs) rest = omega arith

-- a line that is ended by a newline stands first
pub lines_of-ended : (line rest : List ℕ) → is_one_line line ≡ true → lines_of (line ++ 10 ∷ rest) ≡ line ∷ lines_of rest
lines_of-ended line rest one =
    lines_of-cons (line ++ 10 ∷ rest) (some-ended line rest) ∙ rw (before-ended line rest one, after-ended line rest one) refl

ended-append : (line rest : List ℕ) → (line ++ 10 ∷ []) ++ rest ≡ line ++ 10 ∷ rest
ended-append line rest = append_assoc line (10 ∷ []) rest

-- a text is its lines: lines that are each ended by a newline are found again
pub lines_of-lines : (lines : List (List ℕ)) → list_all is_one_line lines ≡ true → lines_of (flat_map (λ line. line ++ 10 ∷ []) lines) ≡ lines
lines_of-lines [] one = lines_of-nil
lines_of-lines (line ∷ lines) one =
    rw (ended-append line (flat_map (λ line. line ++ 10 ∷ []) lines))
    (lines_of-ended line (flat_map (λ line. line ++ 10 ∷ []) lines) (both_left (is_one_line line) (list_all is_one_line lines) one)
    ∙ ap (λ ls. line ∷ ls) (lines_of-lines lines (both_right (is_one_line line) (list_all is_one_line lines) one)))

-- words

plain_in_word : (x : ℕ) → is_plain_byte x ≡ true → is_word_byte x ≡ true
plain_in_word x plain = both_left (is_word_byte x) (not (is_newline x)) plain

plain_in_line : (x : ℕ) → is_plain_byte x ≡ true → not (is_newline x) ≡ true
plain_in_line x plain = both_right (is_word_byte x) (not (is_newline x)) plain

-- a run of plain bytes is followed by what is no word byte
run-append : (word rest : List ℕ) → list_all is_plain_byte word ≡ true → prefix_len is_word_byte rest ≡ 0 → prefix_len is_word_byte (word ++ rest) ≡ length word
run-append [] rest plain ends = ends
run-append (x ∷ xs) rest plain ends =
    let here : is_word_byte x ≡ true = plain_in_word x (both_left (is_plain_byte x) (list_all is_plain_byte xs) plain) in
    let tail = run-append xs rest (both_right (is_plain_byte x) (list_all is_plain_byte xs) plain) ends in
    rw (here, tail) (omega arith)

some_word : (word : List ℕ) → is_nonempty word ≡ true → 0 < length word
some_word [] some = absurd (cc)
some_word (x ∷ xs) some = omega arith

-- a plain word stands first, where what follows it is no word byte
words_from-plain : (column : ℕ) (word rest : List ℕ) → is_plain_word word ≡ true → prefix_len is_word_byte rest ≡ 0 → words_from column (word ++ rest) ≡ record { text = word; column = column } ∷ words_from (column + length word) rest
words_from-plain column word rest plain ends =
    let run = run-append word rest (both_right (is_nonempty word) (list_all is_plain_byte word) plain) ends in
    let some : 0 < prefix_len is_word_byte (word ++ rest) = rw run (some_word word (both_left (is_nonempty word) (list_all is_plain_byte word) plain)) in
    words_from-word column (word ++ rest) some ∙ rw (run, take-append_seam word rest, drop-append_seam word rest) refl

-- words parted by single spaces are found again, each at its column
pub words_from-row : (column : ℕ) (row : List (List ℕ)) → list_all is_plain_word row ≡ true → words_from column (join_with_byte 32 row) ≡ placed column row
words_from-row column [] plain = words_from-nil column
words_from-row column (word ∷ []) plain =
    let first = both_left (is_plain_word word) true plain in
    ap (words_from column) (sym (append-nil word))
    ∙ words_from-plain column word [] first refl
    ∙ ap (λ words. record { text = word; column = column } ∷ words) (words_from-nil (column + length word))
words_from-row column (word ∷ next ∷ row) plain =
    let first = both_left (is_plain_word word) (list_all is_plain_word (next ∷ row)) plain in
    words_from-plain column word (32 ∷ join_with_byte 32 (next ∷ row)) first refl
    ∙ ap (λ words. record { text = word; column = column } ∷ words)
    (words_from-gap (column + length word) 32 (join_with_byte 32 (next ∷ row)) refl
    ∙ words_from-row (column + length word + 1) (next ∷ row) (both_right (is_plain_word word) (list_all is_plain_word (next ∷ row)) plain))

-- written texts

one_line-append : (xs ys : List ℕ) → is_one_line xs ≡ true → is_one_line ys ≡ true → is_one_line (xs ++ ys) ≡ true
one_line-append [] ys left right = right
one_line-append (x ∷ xs) ys left right =
    rw (both_left (not (is_newline x)) (is_one_line xs) left)
    (one_line-append xs ys (both_right (not (is_newline x)) (is_one_line xs) left) right)

one_line-plain : (word : List ℕ) → list_all is_plain_byte word ≡ true → is_one_line word ≡ true
one_line-plain [] plain = refl
one_line-plain (x ∷ xs) plain =
    rw (plain_in_line x (both_left (is_plain_byte x) (list_all is_plain_byte xs) plain))
    (one_line-plain xs (both_right (is_plain_byte x) (list_all is_plain_byte xs) plain))

one_line-word : (word : List ℕ) → is_plain_word word ≡ true → is_one_line word ≡ true
one_line-word word plain = one_line-plain word (both_right (is_nonempty word) (list_all is_plain_byte word) plain)

-- words parted by single spaces stand on one line
pub one_line-row : (row : List (List ℕ)) → list_all is_plain_word row ≡ true → is_one_line (join_with_byte 32 row) ≡ true
one_line-row [] plain = refl
one_line-row (word ∷ []) plain = one_line-word word (both_left (is_plain_word word) true plain)
one_line-row (word ∷ next ∷ row) plain =
    one_line-append word (32 ∷ join_with_byte 32 (next ∷ row))
    (one_line-word word (both_left (is_plain_word word) (list_all is_plain_word (next ∷ row)) plain))
    (one_line-row (next ∷ row) (both_right (is_plain_word word) (list_all is_plain_word (next ∷ row)) plain))

nonempty-placed : (row : List (List ℕ)) → is_nonempty row ≡ true → is_nonempty (placed 1 row) ≡ true
nonempty-placed [] some = some
nonempty-placed (word ∷ row) some = refl

-- a written line stands first, with its words
text_lines_from-written : (number : ℕ) (row : List (List ℕ)) (rest : List ℕ) → is_plain_row row ≡ true → text_lines_from number (written_line row ++ rest) ≡ record { line = number; words = placed 1 row } ∷ text_lines_from (number + 1) rest
text_lines_from-written number row rest plain =
    let words = words_from-row 1 row (both_right (is_nonempty row) (list_all is_plain_word row) plain) in
    let one = one_line-row row (both_right (is_nonempty row) (list_all is_plain_word row) plain) in
    let some = nonempty-placed row (both_left (is_nonempty row) (list_all is_plain_word row) plain) in
    let first = before-ended (join_with_byte 32 row) rest one in
    rw (ended-append (join_with_byte 32 row) rest)
    (text_lines_from-word number (join_with_byte 32 row ++ 10 ∷ rest) (some-ended (join_with_byte 32 row) rest) (rw (first, words) some)
    ∙ rw (first, words, after-ended (join_with_byte 32 row) rest one) refl)

-- a written text has exactly the lines and words that were written
pub text_lines_from-text : (number : ℕ) (rows : List (List (List ℕ))) → list_all is_plain_row rows ≡ true → text_lines_from number (written_text rows) ≡ written_lines number rows
text_lines_from-text number [] plain = text_lines_from-nil number
text_lines_from-text number (row ∷ rows) plain =
    text_lines_from-written number row (written_text rows) (both_left (is_plain_row row) (list_all is_plain_row rows) plain)
    ∙ ap (λ ls. record { line = number; words = placed 1 row } ∷ ls)
    (text_lines_from-text (number + 1) rows (both_right (is_plain_row row) (list_all is_plain_row rows) plain))

pub text_lines-text : (rows : List (List (List ℕ))) → list_all is_plain_row rows ≡ true → text_lines (written_text rows) ≡ written_lines 1 rows
text_lines-text rows plain = text_lines_from-text 1 rows plain

pub lines_past_from-text : (number : ℕ) (rows : List (List (List ℕ))) → list_all is_plain_row rows ≡ true → lines_past_from number (written_text rows) ≡ number + length rows
lines_past_from-text number [] plain = rw add-zero (lines_past_from-nil number)
lines_past_from-text number (row ∷ rows) plain =
    let one = one_line-row row (both_right (is_nonempty row) (list_all is_plain_word row) (both_left (is_plain_row row) (list_all is_plain_row rows) plain)) in
    let tail = lines_past_from-text (number + 1) rows (both_right (is_plain_row row) (list_all is_plain_row rows) plain) in
    rw (ended-append (join_with_byte 32 row) (written_text rows))
    (lines_past_from-cons number (join_with_byte 32 row ++ 10 ∷ written_text rows) (some-ended (join_with_byte 32 row) (written_text rows))
    ∙ rw (after-ended (join_with_byte 32 row) (written_text rows) one, tail) (omega arith))
