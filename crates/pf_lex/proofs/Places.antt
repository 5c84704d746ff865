-- Each word of a line is the part of the line that begins at its column.
use Rattle.std.proofs.Common.{◌≡◌, ℕ, ◌+◌, ◌-◌, ◌≤◌, Bool, true, false, List, [], ◌∷◌, ◌++◌, length, take, drop, suc, refl, ap, sym, subst, ◌∙◌, arith, inl, inr, length-drop}
use Rattle.std.specs.Prelude.{filter}
use Rattle.std.specs.List.{slice_split, onto_first, before_first, position_or_len, AllByRecursion}
use Rattle.std.proofs.lemmas.List.Splits.{slice_split-cons_yes, slice_split-cons_no}
use Rattle.std.proofs.lemmas.Bool.{cases_lt}
use Rattle.std.proofs.lemmas.List.{length-take, take-append-drop, take-append-le, drop-append-le}
use Rattle.pf_lex.proofs.RunLemmas.{empty_list}
use Rattle.pf_lex.specs.Text.{Word, is_nonempty, is_comment_mark, is_gap, placed, words_from}

-- the word is what stands in the bytes at its column, where the first of them has the column given
abbrev pub StandsAt : ℕ → List ℕ → Word → Type 0
StandsAt column bytes word = (column ≤ word.column) × (take (length word.text) (drop (word.column - column) bytes) ≡ word.text)

shifted : (column x : ℕ) (xs : List ℕ) (word : Word) → StandsAt (column + 1) xs word → StandsAt column (x ∷ xs) word
shifted column x xs word stands =
    let e : word.column - column ≡ suc (word.column - (column + 1)) = omega (arith, stands.0) in
    (omega (arith, stands.0), rw e stands.1)

all_shifted : (column x : ℕ) (xs : List ℕ) (words : List Word) → AllByRecursion (StandsAt (column + 1) xs) words → AllByRecursion (StandsAt column (x ∷ xs)) words
all_shifted column x xs [] all = tt
all_shifted column x xs (word ∷ words) all = (shifted column x xs word all.0, all_shifted column x xs words all.1)

-- the pieces between gaps stand where they are placed
record PiecesStand (xs : List ℕ) : Type 0 where
  first : List ℕ
  others : List (List ℕ)
  is : slice_split is_gap xs ≡ first ∷ others
  stand : (column : ℕ) → AllByRecursion (StandsAt column xs) (placed column (first ∷ others))

stand-cons : (x : ℕ) (xs : List ℕ) (gap : Bool) → is_gap x ≡ gap → PiecesStand xs → PiecesStand (x ∷ xs)
stand-cons x xs true e tail =
    record {
      first = [];
      others = tail.first ∷ tail.others;
      is = slice_split-cons_yes is_gap x xs e ∙ ap (λ ps. [] ∷ ps) tail.is;
      stand = λ column.
          let start : column + 0 + 1 ≡ column + 1 = omega arith in
          ((omega arith, refl), rw start (all_shifted column x xs (placed (column + 1) (tail.first ∷ tail.others)) (tail.stand (column + 1))));
    }
stand-cons x xs false e tail =
    record {
      first = x ∷ tail.first;
      others = tail.others;
      is = slice_split-cons_no is_gap x xs e ∙ ap (onto_first x) tail.is;
      stand = λ column.
          let all = tail.stand (column + 1) in
          let none : column - column ≡ 0 = omega arith in
          let none_after : column + 1 - (column + 1) ≡ 0 = omega arith in
          let start : column + suc (length tail.first) + 1 ≡ column + 1 + length tail.first + 1 = omega arith in
          let here = rw none_after at all.0.1 in (
            (omega arith, rw none (ap (λ ys. x ∷ ys) here)),
            rw start (all_shifted column x xs (placed (column + 1 + length tail.first + 1) tail.others) all.1),
          );
    }

pieces_stand : (xs : List ℕ) → PiecesStand xs
pieces_stand [] = record { first = []; others = []; is = refl; stand = λ column. ((omega arith, refl), tt) }
pieces_stand (x ∷ xs) = stand-cons x xs (is_gap x) refl (pieces_stand xs)

-- what stands in the front part of a line stands in the line
in_front : (column : ℕ) (front rest : List ℕ) (word : Word) → StandsAt column front word → StandsAt column (front ++ rest) word
in_front column front rest word stands =
    let len = rw length-take at (ap length stands.1) in (
      stands.0,
      elim (cases_lt (length front) (word.column - column)) [
        | inl past ↦
            let nothing : length word.text ≡ 0 = omega (arith, len, length-drop (word.column - column) front) in
            rw nothing (sym (empty_list word.text nothing))
        | inr within ↦
            let fits : length word.text ≤ length (drop (word.column - column) front) = omega (arith, len) in
            rw (drop-append-le (word.column - column) front rest within, take-append-le (length word.text) (drop (word.column - column) front) rest fits) stands.1
      ],
    )

all_in_front : (column : ℕ) (front rest : List ℕ) (words : List Word) → AllByRecursion (StandsAt column front) words → AllByRecursion (StandsAt column (front ++ rest)) words
all_in_front column front rest [] all = tt
all_in_front column front rest (word ∷ words) all = (in_front column front rest word all.0, all_in_front column front rest words all.1)

kept-cons : (P : Word → Type 0) (p : Word → Bool) (word : Word) (words : List Word) (b : Bool) → p word ≡ b → P word → AllByRecursion P (filter p words) → AllByRecursion P (filter p (word ∷ words))
kept-cons P p word words true e here all = rw e (here, all)
kept-cons P p word words false e here all = rw e all

kept : (P : Word → Type 0) (p : Word → Bool) (words : List Word) → AllByRecursion P words → AllByRecursion P (filter p words)
kept P p [] all = tt
kept P p (word ∷ words) all = kept-cons P p word words (p word) refl all.0 (kept P p words all.1)

-- each word of a line stands in the line at its column
pub words_stand : (column : ℕ) (line : List ℕ) → AllByRecursion (StandsAt column line) (words_from column line)
unfolding words_from
words_stand column line =
    let pieces = pieces_stand (before_first is_comment_mark line) in
    let all = subst (λ (ps : List (List ℕ)). AllByRecursion (StandsAt column (before_first is_comment_mark line)) (placed column ps)) (sym pieces.is) (pieces.stand column) in
    let whole = take-append-drop (position_or_len is_comment_mark line) line in
    let stand = subst (λ (bytes : List ℕ). AllByRecursion (StandsAt column bytes) (placed column (slice_split is_gap (before_first is_comment_mark line)))) whole (all_in_front column (before_first is_comment_mark line) (drop (position_or_len is_comment_mark line) line) (placed column (slice_split is_gap (before_first is_comment_mark line))) all) in
    kept (StandsAt column line) (λ word. is_nonempty word.text) _ stand
