-- The lines of a text, as a scanner meets them: what stands before the first newline is the first line.
use Rattle.std.proofs.Common.{◌≡◌, ℕ, ◌+◌, ◌<◌, Bool, true, false, not, List, [], ◌∷◌, length, take, drop, refl, ap, sym, add-zero, ◌∙◌, arith, inl, inr}
use Rattle.std.specs.Prelude.{Option, None, Some, is_some, MatchOption, IfNone, IfSome}
use Rattle.std.specs.List.{slice_split, onto_first, before_first, after_first, position_or_len}
use Rattle.std.proofs.lemmas.List.Splits.{slice_split_first, slice_split-cons_yes, slice_split-cons_no}
use Rattle.std.proofs.lemmas.List.{drop_all}
use Rattle.std.proofs.lemmas.List.Sums.{prefix_len-le-length}
use Rattle.std.proofs.lemmas.Bool.{cases_lt}
use Rattle.std.proofs.Math.Seq.{take-length}
use Rattle.pf_lex.specs.Text.{TextLine, is_nonempty, is_newline, without_empty_last, lines_of, words_of, text_lines_from, lines_past_from}

pub lines_of-nil : lines_of [] ≡ []
unfolding lines_of
lines_of-nil = refl

-- what `slice_split` gives has a first piece
record HasFirst (pieces : List (List ℕ)) : Type 0 where
  first : List ℕ
  others : List (List ℕ)
  is : pieces ≡ first ∷ others

first-cons : (x : ℕ) (xs : List ℕ) (newline : Bool) → is_newline x ≡ newline → HasFirst (slice_split is_newline xs) → HasFirst (slice_split is_newline (x ∷ xs))
first-cons x xs true e tail = record { first = []; others = slice_split is_newline xs; is = slice_split-cons_yes is_newline x xs e }
first-cons x xs false e tail =
    record {
      first = x ∷ tail.first;
      others = tail.others;
      is = slice_split-cons_no is_newline x xs e ∙ ap (onto_first x) tail.is;
    }

has_first : (xs : List ℕ) → HasFirst (slice_split is_newline xs)
has_first [] = record { first = []; others = []; is = refl }
has_first (x ∷ xs) = first-cons x xs (is_newline x) refl (has_first xs)

-- a first piece that is not the last is kept
without_empty_last-cons : (piece : List ℕ) (pieces : List (List ℕ)) → HasFirst pieces → without_empty_last (piece ∷ pieces) ≡ piece ∷ without_empty_last pieces
without_empty_last-cons piece pieces more = rw more.is refl

-- a text that has a newline is its first line and the lines of what follows
lines_of-newline : (xs : List ℕ) → position_or_len is_newline xs < length xs → lines_of xs ≡ before_first is_newline xs ∷ lines_of (after_first is_newline xs)
unfolding lines_of
lines_of-newline xs found =
    rw (slice_split_first is_newline xs 0 found)
    (without_empty_last-cons (before_first is_newline xs) (slice_split is_newline (after_first is_newline xs)) (has_first (after_first is_newline xs)))

none-cons : (x : ℕ) (xs : List ℕ) (newline : Bool) → is_newline x ≡ newline → (position_or_len is_newline xs ≡ length xs → slice_split is_newline xs ≡ xs ∷ []) → position_or_len is_newline (x ∷ xs) ≡ length (x ∷ xs) → slice_split is_newline (x ∷ xs) ≡ (x ∷ xs) ∷ []
none-cons x xs true e tail none = let h = rw e at none in absurd (omega (arith, h))
none-cons x xs false e tail none =
    let h = rw e at none in
    let shorter : position_or_len is_newline xs ≡ length xs = omega (arith, h) in
    slice_split-cons_no is_newline x xs e ∙ ap (onto_first x) (tail shorter)

-- without a newline there is one piece
split_none : (xs : List ℕ) → position_or_len is_newline xs ≡ length xs → slice_split is_newline xs ≡ xs ∷ []
split_none [] none = refl
split_none (x ∷ xs) none = none-cons x xs (is_newline x) refl (split_none xs) none

one_line : (xs : List ℕ) → 0 < length xs → without_empty_last (xs ∷ []) ≡ xs ∷ []
one_line [] some = absurd (omega arith)
one_line (x ∷ xs) some = refl

-- a text that is not empty and has no newline is one line
lines_of-last : (xs : List ℕ) → 0 < length xs → position_or_len is_newline xs ≡ length xs → lines_of xs ≡ xs ∷ []
unfolding lines_of
lines_of-last xs some none = rw (split_none xs none) (one_line xs some)

lines_of-cons_last : (xs : List ℕ) → 0 < length xs → position_or_len is_newline xs ≡ length xs → lines_of xs ≡ before_first is_newline xs ∷ lines_of (after_first is_newline xs)
lines_of-cons_last xs some none =
    let all : take (position_or_len is_newline xs) xs ≡ xs = rw none (take-length xs) in
    let nothing : drop (position_or_len is_newline xs + 1) xs ≡ [] = drop_all (position_or_len is_newline xs + 1) xs (omega (arith, none)) in
    rw (all, nothing, lines_of-nil) (lines_of-last xs some none)

-- a text that is not empty is its first line and the lines of what follows
pub lines_of-cons : (xs : List ℕ) → 0 < length xs → lines_of xs ≡ before_first is_newline xs ∷ lines_of (after_first is_newline xs)
lines_of-cons xs some =
    elim (cases_lt (position_or_len is_newline xs) (length xs)) [
      | inl found ↦ lines_of-newline xs found
      | inr past ↦ lines_of-cons_last xs some (omega (arith, past, prefix_len-le-length (λ x. not (is_newline x)) xs))
    ]

-- the first line with words of a text that is not empty stands first, where its first line has a word
pub text_lines_from-word : (number : ℕ) (xs : List ℕ) → 0 < length xs → is_nonempty (words_of (before_first is_newline xs)) ≡ true → text_lines_from number xs ≡ record { line = number; words = words_of (before_first is_newline xs) } ∷ text_lines_from (number + 1) (after_first is_newline xs)
unfolding text_lines_from
text_lines_from-word number xs some has_word = rw (lines_of-cons xs some, has_word) refl

-- a first line without a word is passed over
pub text_lines_from-blank : (number : ℕ) (xs : List ℕ) → 0 < length xs → words_of (before_first is_newline xs) ≡ [] → text_lines_from number xs ≡ text_lines_from (number + 1) (after_first is_newline xs)
unfolding text_lines_from
text_lines_from-blank number xs some blank = rw (lines_of-cons xs some, blank) refl

pub text_lines_from-nil : (number : ℕ) → text_lines_from number [] ≡ []
unfolding text_lines_from
text_lines_from-nil number = rw lines_of-nil refl

pub lines_past_from-nil : (number : ℕ) → lines_past_from number [] ≡ number
unfolding lines_past_from
lines_past_from-nil number = rw (lines_of-nil, add-zero) refl

pub lines_past_from-cons : (number : ℕ) (xs : List ℕ) → 0 < length xs → lines_past_from number xs ≡ lines_past_from (number + 1) (after_first is_newline xs)
unfolding lines_past_from
lines_past_from-cons number xs some = rw (lines_of-cons xs some) (omega arith)

-- what a scanner has found when one more line was gone over, where it had found no words before
pub found_after : (all : List TextLine) (number : ℕ) (xs line after : List ℕ) (words : Option TextLine) → 0 < length xs → line ≡ before_first is_newline xs → after ≡ after_first is_newline xs → all ≡ text_lines_from number xs → IfNone words (words_of line ≡ []) → IfSome words (λ w. w ≡ record { line = number; words = words_of line }) → IfSome words (λ w. is_nonempty w.words ≡ true) → MatchOption words (all ≡ text_lines_from (number + 1) after) (λ w. all ≡ w ∷ text_lines_from (number + 1) after)
found_after all number xs line after None some l a left none is has_word =
    rw (left, a) (text_lines_from-blank number xs some (rw (← l) none))
found_after all number xs line after (Some w) some l a left none is has_word =
    rw (left, a, is, l) (text_lines_from-word number xs some (rw (← l) (ap (λ (v : TextLine). is_nonempty v.words) (sym is) ∙ has_word)))

-- where words were found, what stands for none is of no matter
pub where_some : (words : Option TextLine) (P R : Type 0) (Q : TextLine → Type 0) → is_some words ≡ true → MatchOption words P Q → MatchOption words R Q
where_some None P R Q some found = absurd (cc)
where_some (Some w) P R Q some found = found

pub where_none : (words : Option TextLine) (P : Type 0) (Q : TextLine → Type 0) → is_some words ≡ false → MatchOption words P Q → P
where_none None P Q none found = found
where_none (Some w) P Q none found = absurd (cc)
