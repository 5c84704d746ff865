-- The two forms of a number, what a word in a form is worth, and what reading it answers.
use Rattle.std.specs.Prelude.{ℕ, ◌^◌, ℤ, pos, neg_ℤ, Bool, true, ◌==◌, ◌&&◌, if◌then◌else◌, nat_le, List, [], ◌∷◌, Result, Ok, Err}
use Rattle.std.specs.List.{before_first, after_first, list_all}
use Rattle.std.specs.Str.{all_ascii_digits}
use Rattle.std.specs.Str.Parse.{digits_value, starts_with_minus, without_leading_sign}
use Rattle.pf_lex.specs.Text.{is_nonempty}
use Rattle.pf_lex.specs.declared.number.NumFault.{NumFault}
use Rattle.pf_lex.specs.declared.number.NumFault.TheVariants.{NotWhole, TooLarge}

-- the greatest magnitude that a number may have
abbrev pub number_limit : ℕ
number_limit = 2 ^ 62

-- a natural word is one or more digits
abbrev pub is_natural : List ℕ → Bool
is_natural word = is_nonempty word && all_ascii_digits word

-- the number that a natural word writes, in decimal
abbrev pub natural_value : List ℕ → ℕ
natural_value word = digits_value 10 word

-- what stands before a word's first point, or all of it where it has none
abbrev pub before_point : List ℕ → List ℕ
before_point word = before_first (λ byte. byte == 46) word

-- what stands after a word's first point, or nothing where it has none
abbrev pub after_point : List ℕ → List ℕ
after_point word = after_first (λ byte. byte == 46) word

-- a whole word is an optional sign, one or more digits, and optionally a point followed by any number of `0` digits
abbrev pub is_whole : List ℕ → Bool
is_whole word = is_natural (before_point (without_leading_sign word)) && list_all (λ byte. byte == 48) (after_point (without_leading_sign word))

-- the magnitude of the number that a whole word writes
abbrev pub whole_magnitude : List ℕ → ℕ
whole_magnitude word = natural_value (before_point (without_leading_sign word))

-- the number that a whole word writes
abbrev pub whole_value : List ℕ → ℤ
whole_value word = if starts_with_minus word then neg_ℤ (pos (whole_magnitude word)) else pos (whole_magnitude word)

-- what may follow the digits of a whole word: nothing, or a point and any number of `0` digits
abbrev pub ends_whole : List ℕ → Bool
ends_whole [] = true
ends_whole (byte ∷ bytes) = byte == 46 && list_all (λ zero. zero == 48) bytes

-- what reading a natural word answers: its value, or why there is none
unfoldable pub natural_of : List ℕ → Result ℕ NumFault
natural_of word = if is_natural word then (if nat_le (natural_value word) number_limit then Ok (natural_value word) else Err TooLarge) else Err NotWhole

-- what reading a whole word answers: its value, or why there is none
unfoldable pub whole_of : List ℕ → Result ℤ NumFault
whole_of word = if is_whole word then (if nat_le (whole_magnitude word) number_limit then Ok (whole_value word) else Err TooLarge) else Err NotWhole
