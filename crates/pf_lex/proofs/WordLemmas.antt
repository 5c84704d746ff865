-- The words of a line, as a scanner meets them: gaps are passed over, a run of word bytes is a word, and a comment mark or the end of the line ends them.
use Rattle.std.proofs.Common.{◌≡◌, ℕ, ◌+◌, ◌<◌, Bool, true, false, not, List, [], ◌∷◌, length, take, drop, refl, ap, add-zero, sym, ◌∙◌, arith}
use Rattle.std.specs.Prelude.{filter}
use Rattle.std.specs.List.{slice_split, onto_first, before_first, prefix_len}
use Rattle.std.proofs.lemmas.List.Splits.{slice_split-cons_yes, slice_split-cons_no}
use Rattle.std.proofs.lemmas.List.Folds.{length-prefix_len}
use Rattle.std.proofs.lemmas.Bool.Decides.{nat_tests}
use Rattle.std.proofs.Math.Bool.{and-false}
use Rattle.pf_lex.proofs.RunLemmas.{take-one, drop-one, before_first-no, before_first-yes}
use Rattle.pf_lex.specs.Text.{Word, is_nonempty, is_comment_mark, is_gap, is_word_byte, placed, words_from}

-- the pieces between gaps, up to a comment
abbrev pieces : List ℕ → List (List ℕ)
pieces bytes = slice_split is_gap (before_first is_comment_mark bytes)

-- the words among pieces that begin at a column
abbrev words_among : ℕ → List (List ℕ) → List Word
words_among column ps = filter (λ word. is_nonempty word.text) (placed column ps)

pieces-mark : (x : ℕ) (xs : List ℕ) → is_comment_mark x ≡ true → pieces (x ∷ xs) ≡ [] ∷ []
pieces-mark x xs mark = rw (before_first-yes is_comment_mark x xs mark) refl

pieces-gap : (x : ℕ) (xs : List ℕ) → is_gap x ≡ true → is_comment_mark x ≡ false → pieces (x ∷ xs) ≡ [] ∷ pieces xs
pieces-gap x xs gap no_mark = rw (before_first-no is_comment_mark x xs no_mark) (slice_split-cons_yes is_gap x (before_first is_comment_mark xs) gap)

pieces-word : (x : ℕ) (xs : List ℕ) → is_gap x ≡ false → is_comment_mark x ≡ false → pieces (x ∷ xs) ≡ onto_first x (pieces xs)
pieces-word x xs no_gap no_mark = rw (before_first-no is_comment_mark x xs no_mark) (slice_split-cons_no is_gap x (before_first is_comment_mark xs) no_gap)

-- a gap is no comment mark
gap_no_mark : (x : ℕ) → is_gap x ≡ true → is_comment_mark x ≡ false
gap_no_mark x gap = grind (arith, nat_tests)

pub words_from-nil : (column : ℕ) → words_from column [] ≡ []
unfolding words_from
words_from-nil column = refl

words_from-mark : (column x : ℕ) (xs : List ℕ) → is_comment_mark x ≡ true → words_from column (x ∷ xs) ≡ []
unfolding words_from
words_from-mark column x xs mark = rw (pieces-mark x xs mark) refl

pub words_from-gap : (column x : ℕ) (xs : List ℕ) → is_gap x ≡ true → words_from column (x ∷ xs) ≡ words_from (column + 1) xs
unfolding words_from
words_from-gap column x xs gap = rw (pieces-gap x xs gap (gap_no_mark x gap), add-zero) refl

-- the words are those of what follows the gaps in front
abbrev PassesGaps : List ℕ → Type 0
PassesGaps xs = (column : ℕ) → words_from column xs ≡ words_from (column + prefix_len is_gap xs) (drop (prefix_len is_gap xs) xs)

passes-cons : (x : ℕ) (xs : List ℕ) (b : Bool) → is_gap x ≡ b → PassesGaps xs → PassesGaps (x ∷ xs)
passes-cons x xs true gap others column =
    rw (gap, drop-one (prefix_len is_gap xs) x xs)
    (let moved : column + (1 + prefix_len is_gap xs) ≡ column + 1 + prefix_len is_gap xs = omega arith in
    rw moved (words_from-gap column x xs gap ∙ others (column + 1)))
passes-cons x xs false no_gap others column = rw (no_gap, add-zero) refl

-- gaps in front are passed over
pub words_from-gaps : (xs : List ℕ) → PassesGaps xs
words_from-gaps [] column = rw add-zero refl
words_from-gaps (x ∷ xs) column = passes-cons x xs (is_gap x) refl (words_from-gaps xs) column

words_from-is : (column : ℕ) (xs : List ℕ) → words_from column xs ≡ words_among column (pieces xs)
unfolding words_from
words_from-is column xs = refl

-- the first piece is the run of word bytes in front, and the words of the other pieces are those of what follows
record SplitsFirst (xs : List ℕ) : Type 0 where
  others : List (List ℕ)
  first : pieces xs ≡ take (prefix_len is_word_byte xs) xs ∷ others
  rest : (column : ℕ) → words_among (column + 1) others ≡ words_from column (drop (prefix_len is_word_byte xs) xs)

prefix_len-word : (x : ℕ) (xs : List ℕ) → is_gap x ≡ false → is_comment_mark x ≡ false → prefix_len is_word_byte (x ∷ xs) ≡ 1 + prefix_len is_word_byte xs
prefix_len-word x xs e m = rw (e, m) refl

prefix_len-mark : (x : ℕ) (xs : List ℕ) → is_comment_mark x ≡ true → prefix_len is_word_byte (x ∷ xs) ≡ 0
prefix_len-mark x xs m = rw (m, and-false (not (is_gap x))) refl

prefix_len-gap : (x : ℕ) (xs : List ℕ) → is_gap x ≡ true → prefix_len is_word_byte (x ∷ xs) ≡ 0
prefix_len-gap x xs e = rw e refl

splits-cons : (x : ℕ) (xs : List ℕ) (gap mark : Bool) → is_gap x ≡ gap → is_comment_mark x ≡ mark → SplitsFirst xs → SplitsFirst (x ∷ xs)
splits-cons x xs gap true e m tail =
    record {
      others = [];
      first = rw (prefix_len-mark x xs m) (pieces-mark x xs m);
      rest = λ column. rw (prefix_len-mark x xs m) (sym (words_from-mark column x xs m));
    }
splits-cons x xs true false e m tail =
    record {
      others = pieces xs;
      first = rw (prefix_len-gap x xs e) (pieces-gap x xs e m);
      rest = λ column. rw (prefix_len-gap x xs e) (sym (words_from-gap column x xs e ∙ words_from-is (column + 1) xs));
    }
splits-cons x xs false false e m tail =
    record {
      others = tail.others;
      first = rw (prefix_len-word x xs e m, take-one (prefix_len is_word_byte xs) x xs) (pieces-word x xs e m ∙ ap (onto_first x) tail.first);
      rest = λ column. rw (prefix_len-word x xs e m, drop-one (prefix_len is_word_byte xs) x xs) (tail.rest column);
    }

splits_first : (xs : List ℕ) → SplitsFirst xs
splits_first [] = record { others = []; first = refl; rest = λ column. sym (words_from-nil column) }
splits_first (x ∷ xs) = splits-cons x xs (is_gap x) (is_comment_mark x) refl refl (splits_first xs)

words_among-cons : (column : ℕ) (piece : List ℕ) (ps : List (List ℕ)) → 0 < length piece → words_among column (piece ∷ ps) ≡ record { text = piece; column = column } ∷ words_among (column + length piece + 1) ps
words_among-cons column [] ps some = absurd (omega arith)
words_among-cons column (x ∷ xs) ps some = refl

-- a run of word bytes in front is the first word, and the others are those of what follows
pub words_from-word : (column : ℕ) (xs : List ℕ) → 0 < prefix_len is_word_byte xs → words_from column xs ≡ record { text = take (prefix_len is_word_byte xs) xs; column = column } ∷ words_from (column + prefix_len is_word_byte xs) (drop (prefix_len is_word_byte xs) xs)
words_from-word column xs some =
    let split = splits_first xs in
    let len : length (take (prefix_len is_word_byte xs) xs) ≡ prefix_len is_word_byte xs = length-prefix_len is_word_byte xs in
    let there : 0 < length (take (prefix_len is_word_byte xs) xs) = omega arith in
    words_from-is column xs
    ∙ ap (words_among column) split.first
    ∙ words_among-cons column (take (prefix_len is_word_byte xs) xs) split.others there
    ∙ ap (λ words. record { text = take (prefix_len is_word_byte xs) xs; column = column } ∷ words) (rw len (split.rest (column + prefix_len is_word_byte xs)))

none-cons : (column x : ℕ) (xs : List ℕ) (gap mark : Bool) → is_gap x ≡ gap → is_comment_mark x ≡ mark → prefix_len is_gap (x ∷ xs) ≡ 0 → prefix_len is_word_byte (x ∷ xs) ≡ 0 → words_from column (x ∷ xs) ≡ []
none-cons column x xs gap true e m no_gap no_word = words_from-mark column x xs m
none-cons column x xs true false e m no_gap no_word = let h = rw e at no_gap in absurd (omega (arith, h))
none-cons column x xs false false e m no_gap no_word = let h = rw (e, m) at no_word in absurd (omega (arith, h))

-- where neither a gap nor a word byte stands in front there is no word
words_from-none : (column : ℕ) (xs : List ℕ) → prefix_len is_gap xs ≡ 0 → prefix_len is_word_byte xs ≡ 0 → words_from column xs ≡ []
words_from-none column [] no_gap no_word = words_from-nil column
words_from-none column (x ∷ xs) no_gap no_word = none-cons column x xs (is_gap x) (is_comment_mark x) refl refl no_gap no_word

after-cons : (x : ℕ) (xs : List ℕ) (b : Bool) → is_gap x ≡ b → prefix_len is_gap (drop (prefix_len is_gap xs) xs) ≡ 0 → prefix_len is_gap (drop (prefix_len is_gap (x ∷ xs)) (x ∷ xs)) ≡ 0
after-cons x xs true e tail =
    let len : prefix_len is_gap (x ∷ xs) ≡ 1 + prefix_len is_gap xs = rw e refl in rw (len, drop-one (prefix_len is_gap xs) x xs) tail
after-cons x xs false e tail =
    let len : prefix_len is_gap (x ∷ xs) ≡ 0 = rw e refl in rw len len

-- no gap follows the gaps in front
no_gap_after : (xs : List ℕ) → prefix_len is_gap (drop (prefix_len is_gap xs) xs) ≡ 0
no_gap_after [] = refl
no_gap_after (x ∷ xs) = after-cons x xs (is_gap x) refl (no_gap_after xs)

-- where no word byte follows the gaps in front there is no word
pub words_from-end : (column : ℕ) (xs from : List ℕ) (gaps : ℕ) → gaps ≡ prefix_len is_gap xs → from ≡ drop gaps xs → prefix_len is_word_byte from ≡ 0 → words_from column xs ≡ []
words_from-end column xs from gaps g f no_word =
    let start : drop (prefix_len is_gap xs) xs ≡ from = rw (← g) (sym f) in
    words_from-gaps xs column ∙ rw start (words_from-none (column + prefix_len is_gap xs) from (rw (← start) (no_gap_after xs)) no_word)

-- the run of word bytes after the gaps in front is the first word, and the others are those of what follows
pub words_from-next : (column : ℕ) (xs from : List ℕ) (gaps len : ℕ) → gaps ≡ prefix_len is_gap xs → from ≡ drop gaps xs → len ≡ prefix_len is_word_byte from → 0 < len → words_from column xs ≡ record { text = take len from; column = column + gaps } ∷ words_from (column + gaps + len) (drop len from)
words_from-next column xs from gaps len g f l some =
    let start : drop (prefix_len is_gap xs) xs ≡ from = rw (← g) (sym f) in
    let here : 0 < prefix_len is_word_byte from = rw (← l) some in
    words_from-gaps xs column ∙ rw (start, ← g, l) (words_from-word (column + gaps) from here)

-- where a word byte follows the gaps in front there is a word
pub words_from-some : (column : ℕ) (xs : List ℕ) → 0 < prefix_len is_word_byte xs → is_nonempty (words_from column xs) ≡ true
words_from-some column xs some = rw (words_from-word column xs some) refl
