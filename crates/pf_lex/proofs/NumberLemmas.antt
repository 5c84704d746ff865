-- Digits in front of a word, and the two forms of a number.
use Rattle.std.proofs.Common.{◌≡◌, ℕ, ◌+◌, ◌-◌, ◌*◌, ◌^◌, ◌<◌, ◌≤◌, Bool, true, false, ◌&&◌, List, [], ◌∷◌, length, get_or, take, drop, refl, ap, ◌∙◌, arith, inl, inr, Ok, Err}
use Rattle.std.specs.Prelude.{◌==◌, nat_lt, nat_le}
use Rattle.std.specs.Char.{is_ascii_digit, digit_value}
use Rattle.std.specs.List.{prefix_len, list_all}
use Rattle.std.specs.Str.{all_ascii_digits}
use Rattle.std.specs.Str.Parse.{without_leading_sign}
use Rattle.std.proofs.lemmas.Int.Digits.{digits_value_more}
use Rattle.std.proofs.lemmas.Bool.Decides.{nat_tests}
use Rattle.std.proofs.lemmas.Bool.{cases_lt}
use Rattle.pf_lex.proofs.RunLemmas.{take-one, drop-one, before_first-no, before_first-yes, after_first-no, after_first-yes}
use Rattle.pf_lex.specs.Text.{is_nonempty}
use Rattle.pf_lex.specs.Number.{is_natural, natural_value, before_point, after_point, ends_whole, number_limit, natural_of, is_whole, whole_magnitude, whole_value, whole_of}
use Rattle.pf_lex.specs.declared.number.NumFault.TheVariants.{NotWhole, TooLarge}

digit_value-digit : (b : ℕ) → is_ascii_digit b ≡ true → (48 ≤ b) × (b ≤ 57) × (digit_value b ≡ b - 48)
digit_value-digit b digit = grind (arith, nat_tests)

-- one digit more
pub natural_value-more : (word : List ℕ) (n : ℕ) → n < length word → is_ascii_digit (get_or word n 0) ≡ true → (48 ≤ get_or word n 0) × (get_or word n 0 ≤ 57) × (natural_value (take (n + 1) word) ≡ natural_value (take n word) * 10 + (get_or word n 0 - 48))
natural_value-more word n here digit =
    let worth = digit_value-digit (get_or word n 0) digit in
    (worth.0, worth.1, digits_value_more 10 word n here ∙ ap (λ (d : ℕ). natural_value (take n word) * 10 + d) worth.2)

-- a digit behind a value for which there is no room makes it too great
pub past_room : (value number digit : ℕ) → 2 ^ 60 ≤ value → (value ≤ number_limit → number ≡ value) → (number_limit < value → number_limit < number) → number_limit < number * 10 + digit
past_room value number digit full exact above =
    elim (cases_lt number_limit value) [
      | inl more ↦ omega (arith, above more)
      | inr less ↦ omega (arith, exact less)
    ]

all-cons : (x : ℕ) (xs : List ℕ) (b : Bool) → is_ascii_digit x ≡ b → all_ascii_digits xs ≡ nat_le (length xs) (prefix_len is_ascii_digit xs) → all_ascii_digits (x ∷ xs) ≡ nat_le (length (x ∷ xs)) (prefix_len is_ascii_digit (x ∷ xs))
all-cons x xs true e tail = rw (e, tail) (grind (arith, nat_tests))
all-cons x xs false e tail = rw e (grind (arith, nat_tests))

-- all are digits where the run of digits in front is the whole word
pub all_digits : (xs : List ℕ) → all_ascii_digits xs ≡ nat_le (length xs) (prefix_len is_ascii_digit xs)
all_digits [] = refl
all_digits (x ∷ xs) = all-cons x xs (is_ascii_digit x) refl (all_digits xs)

nonempty-length : (xs : List ℕ) → is_nonempty xs ≡ nat_lt 0 (length xs)
nonempty-length [] = refl
nonempty-length (x ∷ xs) = grind (arith, nat_tests)

-- a word is natural where a run of digits is all of it, and is not empty
pub is_natural-run : (word : List ℕ) (n : ℕ) → n ≤ length word → n ≡ prefix_len is_ascii_digit word → is_natural word ≡ nat_lt 0 n && nat_le (length word) n
is_natural-run word n within run = rw (nonempty-length word, all_digits word, run) (grind (arith, nat_tests))

-- what `natural` answers
pub natural_of-not : (word : List ℕ) → is_natural word ≡ false → natural_of word ≡ Err NotWhole
unfolding natural_of
natural_of-not word e = rw e refl

pub natural_of-large : (word : List ℕ) → is_natural word ≡ true → number_limit < natural_value word → natural_of word ≡ Err TooLarge
unfolding natural_of
natural_of-large word e large = let beyond : nat_le (natural_value word) number_limit ≡ false = grind (arith, nat_tests) in rw (e, beyond) refl

pub natural_of-ok : (word : List ℕ) → is_natural word ≡ true → natural_value word ≤ number_limit → natural_of word ≡ Ok (natural_value word)
unfolding natural_of
natural_of-ok word e small = let within : nat_le (natural_value word) number_limit ≡ true = grind (arith, nat_tests) in rw (e, within) refl

prefix_len-digit : (x : ℕ) (xs : List ℕ) → is_ascii_digit x ≡ true → prefix_len is_ascii_digit (x ∷ xs) ≡ 1 + prefix_len is_ascii_digit xs
prefix_len-digit x xs e = rw e refl

prefix_len-other : (x : ℕ) (xs : List ℕ) → is_ascii_digit x ≡ false → prefix_len is_ascii_digit (x ∷ xs) ≡ 0
prefix_len-other x xs e = rw e refl

digit_no_point : (x : ℕ) → is_ascii_digit x ≡ true → (x == 46) ≡ false
digit_no_point x e = grind (arith, nat_tests)

-- no digit but `0` follows the digits, and those only behind a point
abbrev are_zeros : List ℕ → Bool
are_zeros bytes = list_all (λ zero. zero == 48) bytes

ends-cons : (x : ℕ) (xs : List ℕ) (digit point : Bool) → is_ascii_digit x ≡ digit → (x == 46) ≡ point → (all_ascii_digits (before_point xs) && are_zeros (after_point xs)) ≡ ends_whole (drop (prefix_len is_ascii_digit xs) xs) → (all_ascii_digits (before_point (x ∷ xs)) && are_zeros (after_point (x ∷ xs))) ≡ ends_whole (drop (prefix_len is_ascii_digit (x ∷ xs)) (x ∷ xs))
ends-cons x xs true point e p tail =
    rw (before_first-no (λ byte. byte == 46) x xs (digit_no_point x e), after_first-no (λ byte. byte == 46) x xs (digit_no_point x e), prefix_len-digit x xs e, drop-one (prefix_len is_ascii_digit xs) x xs)
    (rw e tail)
ends-cons x xs false true e p tail =
    rw (before_first-yes (λ byte. byte == 46) x xs p, after_first-yes (λ byte. byte == 46) x xs p, prefix_len-other x xs e) (rw p refl)
ends-cons x xs false false e p tail =
    rw (before_first-no (λ byte. byte == 46) x xs p, prefix_len-other x xs e) (rw (e, p) refl)

-- digits up to a point with zeros behind it are a run of digits that ends so
ends : (xs : List ℕ) → (all_ascii_digits (before_point xs) && are_zeros (after_point xs)) ≡ ends_whole (drop (prefix_len is_ascii_digit xs) xs)
ends [] = refl
ends (x ∷ xs) = ends-cons x xs (is_ascii_digit x) (x == 46) refl refl (ends xs)

before-cons : (x : ℕ) (xs : List ℕ) (digit point : Bool) → is_ascii_digit x ≡ digit → (x == 46) ≡ point → (ends_whole (drop (prefix_len is_ascii_digit xs) xs) ≡ true → before_point xs ≡ take (prefix_len is_ascii_digit xs) xs) → ends_whole (drop (prefix_len is_ascii_digit (x ∷ xs)) (x ∷ xs)) ≡ true → before_point (x ∷ xs) ≡ take (prefix_len is_ascii_digit (x ∷ xs)) (x ∷ xs)
before-cons x xs true point e p tail end =
    let further = rw (prefix_len-digit x xs e, drop-one (prefix_len is_ascii_digit xs) x xs) at end in
    rw (before_first-no (λ byte. byte == 46) x xs (digit_no_point x e), prefix_len-digit x xs e, take-one (prefix_len is_ascii_digit xs) x xs)
    (ap (λ ys. x ∷ ys) (tail further))
before-cons x xs false true e p tail end = rw (before_first-yes (λ byte. byte == 46) x xs p, prefix_len-other x xs e) refl
before-cons x xs false false e p tail end =
    let here = rw (prefix_len-other x xs e) at end in
    let none = rw p at here in absurd (cc)

-- where a run of digits ends so, it is what stands before the point
before : (xs : List ℕ) → ends_whole (drop (prefix_len is_ascii_digit xs) xs) ≡ true → before_point xs ≡ take (prefix_len is_ascii_digit xs) xs
before [] end = refl
before (x ∷ xs) end = before-cons x xs (is_ascii_digit x) (x == 46) refl refl (before xs) end

form-cons : (x : ℕ) (xs : List ℕ) (digit point : Bool) → is_ascii_digit x ≡ digit → (x == 46) ≡ point → (is_natural (before_point (x ∷ xs)) && are_zeros (after_point (x ∷ xs))) ≡ (nat_lt 0 (prefix_len is_ascii_digit (x ∷ xs)) && ends_whole (drop (prefix_len is_ascii_digit (x ∷ xs)) (x ∷ xs)))
form-cons x xs true point e p =
    let some : nat_lt 0 (1 + prefix_len is_ascii_digit xs) ≡ true = grind (arith, nat_tests) in
    rw (← ends (x ∷ xs), prefix_len-digit x xs e, some, before_first-no (λ byte. byte == 46) x xs (digit_no_point x e)) refl
form-cons x xs false true e p = rw (before_first-yes (λ byte. byte == 46) x xs p, prefix_len-other x xs e) refl
form-cons x xs false false e p = rw (before_first-no (λ byte. byte == 46) x xs p, prefix_len-other x xs e) (rw e refl)

form : (xs : List ℕ) → (is_natural (before_point xs) && are_zeros (after_point xs)) ≡ (nat_lt 0 (prefix_len is_ascii_digit xs) && ends_whole (drop (prefix_len is_ascii_digit xs) xs))
form [] = refl
form (x ∷ xs) = form-cons x xs (is_ascii_digit x) (x == 46) refl refl

-- a word is whole where a run of digits follows its sign and ends so
pub is_whole-run : (word body : List ℕ) (n : ℕ) → body ≡ without_leading_sign word → n ≡ prefix_len is_ascii_digit body → is_whole word ≡ (nat_lt 0 n && ends_whole (drop n body))
is_whole-run word body n b run = rw (run, b) (form (without_leading_sign word))

pub whole_magnitude-run : (word body : List ℕ) (n : ℕ) → body ≡ without_leading_sign word → n ≡ prefix_len is_ascii_digit body → ends_whole (drop n body) ≡ true → whole_magnitude word ≡ natural_value (take n body)
whole_magnitude-run word body n b run end =
    let here = rw (run, b) at end in
    rw (run, b) (ap natural_value (before (without_leading_sign word) here))

-- what `whole` answers
pub whole_of-not : (word : List ℕ) → is_whole word ≡ false → whole_of word ≡ Err NotWhole
unfolding whole_of
whole_of-not word e = rw e refl

pub whole_of-large : (word : List ℕ) → is_whole word ≡ true → number_limit < whole_magnitude word → whole_of word ≡ Err TooLarge
unfolding whole_of
whole_of-large word e large = let beyond : nat_le (whole_magnitude word) number_limit ≡ false = grind (arith, nat_tests) in rw (e, beyond) refl

pub whole_of-ok : (word : List ℕ) → is_whole word ≡ true → whole_magnitude word ≤ number_limit → whole_of word ≡ Ok (whole_value word)
unfolding whole_of
whole_of-ok word e small = let within : nat_le (whole_magnitude word) number_limit ≡ true = grind (arith, nat_tests) in rw (e, within) refl
