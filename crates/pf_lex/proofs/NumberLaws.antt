-- A written number is read as itself, and is a word that is read as it is written.
use Rattle.std.proofs.Common.{◌≡◌, ℕ, ◌^◌, ◌<◌, ◌≤◌, Bool, true, false, ◌&&◌, List, [], ◌∷◌, length, suc, refl, ap, sym, ◌∙◌, arith, Ok}
use Rattle.std.specs.Prelude.{◌==◌, nat_lt, nat_le, ℤ, pos, negsuc, decimal, if◌then◌else◌}
use Rattle.std.specs.Fmt.{signed_decimal}
use Rattle.std.specs.Int.Signed.{mag}
use Rattle.std.specs.Char.{is_ascii_digit}
use Rattle.std.specs.List.{prefix_len, list_all}
use Rattle.std.specs.Str.{all_ascii_digits}
use Rattle.std.specs.Str.Parse.{starts_with_minus, without_leading_sign}
use Rattle.std.proofs.lemmas.Fmt.{digits_decimal, digits_value-decimal, decimal_nonempty}
use Rattle.std.proofs.lemmas.Str.Parse.{numerals_by_value, tells_all_ascii_digits}
use Rattle.std.proofs.lemmas.Bool.Decides.{nat_tests}
use Rattle.std.proofs.lemmas.List.Sums.{prefix_len-le-length}
use Rattle.std.proofs.Math.Seq.{drop-length, take-length}
use Rattle.pf_lex.specs.Text.{is_nonempty}
use Rattle.pf_lex.specs.Number.{is_natural, natural_value, natural_of, is_whole, whole_magnitude, whole_of, number_limit}
use Rattle.pf_lex.specs.Written.{is_plain_byte, is_plain_word}
use Rattle.pf_lex.proofs.NumberLemmas.{all_digits, natural_of-ok, is_whole-run, whole_magnitude-run, whole_of-ok}

both_left : (a b : Bool) → (a && b) ≡ true → a ≡ true
both_left true b h = refl
both_left false b h = h

both_right : (a b : Bool) → (a && b) ≡ true → b ≡ true
both_right true b h = h
both_right false b h = absurd (cc)

nonempty : (xs : List ℕ) → 0 < length xs → is_nonempty xs ≡ true
nonempty [] some = absurd (omega arith)
nonempty (x ∷ xs) some = refl

digit_is_plain : (x : ℕ) → is_ascii_digit x ≡ true → is_plain_byte x ≡ true
digit_is_plain x digit = grind (arith, nat_tests)

digits_are_plain : (ds : List ℕ) → all_ascii_digits ds ≡ true → list_all is_plain_byte ds ≡ true
digits_are_plain [] digits = refl
digits_are_plain (x ∷ xs) digits =
    rw (digit_is_plain x (both_left (is_ascii_digit x) (all_ascii_digits xs) digits))
    (digits_are_plain xs (both_right (is_ascii_digit x) (all_ascii_digits xs) digits))

decimal_digits : (n : ℕ) → n < 2 ^ 64 → all_ascii_digits (decimal n) ≡ true
decimal_digits n small = digits_decimal (numerals_by_value (λ ds. all_ascii_digits ds ≡ true) tells_all_ascii_digits) n small

decimal_value : (n : ℕ) → n < 2 ^ 64 → natural_value (decimal n) ≡ n
decimal_value n small = digits_value-decimal (numerals_by_value (λ ds. all_ascii_digits ds ≡ true) tells_all_ascii_digits) n small

-- a written natural number is a plain word
pub is_plain_word-decimal : (n : ℕ) → n < 2 ^ 64 → is_plain_word (decimal n) ≡ true
is_plain_word-decimal n small =
    rw (nonempty (decimal n) (decimal_nonempty n small)) (digits_are_plain (decimal n) (decimal_digits n small))

-- and is read as itself
pub natural_of-decimal : (n : ℕ) → n ≤ number_limit → natural_of (decimal n) ≡ Ok n
natural_of-decimal n small =
    let fits : n < 2 ^ 64 = omega arith in
    let form : is_natural (decimal n) ≡ true = rw (nonempty (decimal n) (decimal_nonempty n fits)) (decimal_digits n fits) in
    let worth = decimal_value n fits in
    natural_of-ok (decimal n) form (omega (arith, worth)) ∙ ap Ok worth

run_of_digits : (ds : List ℕ) → all_ascii_digits ds ≡ true → length ds ≡ prefix_len is_ascii_digit ds
run_of_digits ds digits =
    let all : nat_le (length ds) (prefix_len is_ascii_digit ds) ≡ true = sym (all_digits ds) ∙ digits in
    let most = prefix_len-le-length is_ascii_digit ds in
    grind (arith, nat_tests, most)

-- a sign and digits are whole
signed_form : (word ds : List ℕ) → ds ≡ without_leading_sign word → all_ascii_digits ds ≡ true → 0 < length ds → is_whole word ≡ true
signed_form word ds body digits some =
    let there : nat_lt 0 (length ds) ≡ true = grind (arith, nat_tests) in
    is_whole-run word ds (length ds) body (run_of_digits ds digits) ∙ rw (there, drop-length ds) refl

signed_value : (word ds : List ℕ) → ds ≡ without_leading_sign word → all_ascii_digits ds ≡ true → whole_magnitude word ≡ natural_value ds
signed_value word ds body digits =
    whole_magnitude-run word ds (length ds) body (run_of_digits ds digits) (rw (drop-length ds) refl) ∙ ap natural_value (take-length ds)

unsigned-cons : (x : ℕ) (xs : List ℕ) → is_ascii_digit x ≡ true → (x ∷ xs ≡ without_leading_sign (x ∷ xs)) × (starts_with_minus (x ∷ xs) ≡ false)
unsigned-cons x xs digit =
    let minus : (x == 45) ≡ false = grind (arith, nat_tests) in
    let plus : (x == 43) ≡ false = grind (arith, nat_tests) in
    (rw (minus, plus) refl, minus)

unsigned : (ds : List ℕ) → all_ascii_digits ds ≡ true → 0 < length ds → (ds ≡ without_leading_sign ds) × (starts_with_minus ds ≡ false)
unsigned [] digits some = absurd (omega arith)
unsigned (x ∷ xs) digits some = unsigned-cons x xs (both_left (is_ascii_digit x) (all_ascii_digits xs) digits)

chosen : (b : Bool) (x y : ℤ) → b ≡ false → (if b then x else y) ≡ y
chosen b x y no_minus = rw no_minus refl

-- a written natural number is read as itself where a whole number is asked for
pub whole_of-decimal : (n : ℕ) → n ≤ number_limit → whole_of (decimal n) ≡ Ok (pos n)
whole_of-decimal n small =
    let fits : n < 2 ^ 64 = omega arith in
    let digits = decimal_digits n fits in
    let some = decimal_nonempty n fits in
    let plain = unsigned (decimal n) digits some in
    let worth : whole_magnitude (decimal n) ≡ n = signed_value (decimal n) (decimal n) plain.0 digits ∙ decimal_value n fits in
    whole_of-ok (decimal n) (signed_form (decimal n) (decimal n) plain.0 digits some) (omega (arith, worth)) ∙ ap Ok (chosen (starts_with_minus (decimal n)) _ _ plain.1 ∙ ap pos worth)

-- and so is a negative one, written with its sign
pub whole_of-negative : (n : ℕ) → n < number_limit → whole_of (signed_decimal (negsuc n)) ≡ Ok (negsuc n)
whole_of-negative n small =
    let fits : suc n < 2 ^ 64 = omega arith in
    let digits = decimal_digits (suc n) fits in
    let some = decimal_nonempty (suc n) fits in
    let word : List ℕ = 45 ∷ decimal (suc n) in
    let worth : whole_magnitude (45 ∷ decimal (suc n)) ≡ suc n = signed_value (45 ∷ decimal (suc n)) (decimal (suc n)) refl digits ∙ decimal_value (suc n) fits in
    whole_of-ok (45 ∷ decimal (suc n)) (signed_form (45 ∷ decimal (suc n)) (decimal (suc n)) refl digits some) (omega (arith, worth)) ∙ ap Ok (rw worth refl)

-- a written whole number is read as itself
pub whole_of-signed_decimal : (z : ℤ) → mag z < number_limit → whole_of (signed_decimal z) ≡ Ok z
whole_of-signed_decimal (pos n) small = whole_of-decimal n (omega arith)
whole_of-signed_decimal (negsuc n) small = whole_of-negative n small

-- and is a plain word
pub is_plain_word-signed_decimal : (z : ℤ) → mag z < 2 ^ 63 → is_plain_word (signed_decimal z) ≡ true
is_plain_word-signed_decimal (pos n) small = is_plain_word-decimal n (omega arith)
is_plain_word-signed_decimal (negsuc n) small = digits_are_plain (decimal (suc n)) (decimal_digits (suc n) (omega arith))
