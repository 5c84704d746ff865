-- The definitions at small texts and words.
use Rattle.std.specs.Prelude.{◌≡◌, ℕ, ◌^◌, List, [], ◌∷◌, pos, negsuc, Ok, Err, refl, codes}
use Rattle.pf_lex.specs.Text.{Word, TextLine, lines_of, words_from, words_of, text_lines_from, text_lines, lines_past_from, lines_past}
use Rattle.pf_lex.specs.Number.{natural_of, whole_of}
use Rattle.pf_lex.specs.declared.number.NumFault.TheVariants.{NotWhole, TooLarge}

-- a word at a column
abbrev word : List ℕ → ℕ → Word
word text column = record { text = text; column = column }

-- a line with its words
abbrev line : ℕ → List Word → TextLine
line number words = record { line = number; words = words }

-- lines

empty_text : lines_of [] ≡ []
unfolding lines_of
empty_text = refl

one_newline : lines_of (codes "\n") ≡ [] ∷ []
unfolding lines_of
one_newline = refl

last_line_ended : lines_of (codes "a\nb\n") ≡ codes "a" ∷ codes "b" ∷ []
unfolding lines_of
last_line_ended = refl

last_line_open : lines_of (codes "a\nb") ≡ codes "a" ∷ codes "b" ∷ []
unfolding lines_of
last_line_open = refl

empty_line_between : lines_of (codes "a\n\nb") ≡ codes "a" ∷ [] ∷ codes "b" ∷ []
unfolding lines_of
empty_line_between = refl

past_of_empty : lines_past [] ≡ 1
unfolding lines_past_from lines_of
past_of_empty = refl

past_of_newline : lines_past (codes "\n") ≡ 2
unfolding lines_past_from lines_of
past_of_newline = refl

past_of_open_line : lines_past (codes "x") ≡ 2
unfolding lines_past_from lines_of
past_of_open_line = refl

-- words

runs : words_of (codes "  ab\tc\r d") ≡ word (codes "ab") 3 ∷ word (codes "c") 6 ∷ word (codes "d") 9 ∷ []
unfolding words_from
runs = refl

comment_in_word : words_of (codes "1#2 3") ≡ word (codes "1") 1 ∷ []
unfolding words_from
comment_in_word = refl

comment_alone : words_of (codes " # 1 2") ≡ []
unfolding words_from
comment_alone = refl

return_parts : words_of (codes "1\r2\r") ≡ word (codes "1") 1 ∷ word (codes "2") 3 ∷ []
unfolding words_from
return_parts = refl

other_bytes : words_of (0 ∷ 11 ∷ 12 ∷ 239 ∷ 32 ∷ 255 ∷ []) ≡ word (0 ∷ 11 ∷ 12 ∷ 239 ∷ []) 1 ∷ word (255 ∷ []) 6 ∷ []
unfolding words_from
other_bytes = refl

-- the lines of a file as Shewchuk's Triangle writes it
of_triangle : text_lines (codes "4  2\n\n   1    0\n# made\n") ≡ line 1 (word (codes "4") 1 ∷ word (codes "2") 4 ∷ []) ∷ line 3 (word (codes "1") 4 ∷ word (codes "0") 9 ∷ []) ∷ []
unfolding text_lines_from lines_of words_from
of_triangle = refl

only_comments : text_lines (codes "# a\n  #b\n\n \t\r\n#c") ≡ []
unfolding text_lines_from lines_of words_from
only_comments = refl

past_of_comments : lines_past (codes "# a\n  #b\n\n \t\r\n#c") ≡ 6
unfolding lines_past_from lines_of
past_of_comments = refl

-- numbers

zeros_before : natural_of (codes "007") ≡ Ok 7
unfolding natural_of
zeros_before = refl

no_sign_in_natural : natural_of (codes "+1") ≡ Err NotWhole
unfolding natural_of
no_sign_in_natural = refl

no_point_in_natural : natural_of (codes "2.0") ≡ Err NotWhole
unfolding natural_of
no_point_in_natural = refl

empty_word : natural_of [] ≡ Err NotWhole
unfolding natural_of
empty_word = refl

greatest : natural_of (codes "4611686018427387904") ≡ Ok (2 ^ 62)
unfolding natural_of
greatest = refl

above_greatest : natural_of (codes "4611686018427387905") ≡ Err TooLarge
unfolding natural_of
above_greatest = refl

plain : whole_of (codes "2") ≡ Ok (pos 2)
unfolding whole_of
plain = refl

plus : whole_of (codes "+12") ≡ Ok (pos 12)
unfolding whole_of
plus = refl

minus : whole_of (codes "-12") ≡ Ok (negsuc 11)
unfolding whole_of
minus = refl

minus_zero : whole_of (codes "-0") ≡ Ok (pos 0)
unfolding whole_of
minus_zero = refl

point_alone : whole_of (codes "2.") ≡ Ok (pos 2)
unfolding whole_of
point_alone = refl

zeros_after : whole_of (codes "2.000") ≡ Ok (pos 2)
unfolding whole_of
zeros_after = refl

half : whole_of (codes "2.5") ≡ Err NotWhole
unfolding whole_of
half = refl

no_digit : whole_of (codes ".0") ≡ Err NotWhole
unfolding whole_of
no_digit = refl

exponent : whole_of (codes "2e3") ≡ Err NotWhole
unfolding whole_of
exponent = refl

two_signs : whole_of (codes "-+2") ≡ Err NotWhole
unfolding whole_of
two_signs = refl

two_points : whole_of (codes "2.0.0") ≡ Err NotWhole
unfolding whole_of
two_points = refl

sign_alone : whole_of (codes "-") ≡ Err NotWhole
unfolding whole_of
sign_alone = refl

below_least : whole_of (codes "-4611686018427387905.0") ≡ Err TooLarge
unfolding whole_of
below_least = refl

form_before_size : whole_of (codes "4611686018427387905.5") ≡ Err NotWhole
unfolding whole_of
form_before_size = refl
