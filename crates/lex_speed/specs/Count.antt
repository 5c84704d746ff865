-- What the words of a text come to.
use Rattle.std.specs.Prelude.{ℕ, ◌+◌, ◌%◌, ◌^◌, ℤ, pos, List, Result, Ok, Err, fold}
use Rattle.std.specs.Int.{w64, int_wrapping_add}
use Rattle.pf_lex.specs.Text.{Word, TextLine, text_lines, lines_past}
use Rattle.pf_lex.specs.Number.{whole_of}
use Rattle.pf_lex.specs.declared.number.NumFault.{NumFault}
use Rattle.pf_lex.specs.declared.number.NumFault.TheVariants.{NotWhole, TooLarge}
use Rattle.lex_speed.specs.declared.Totals.{Totals}

-- one more in a counter of 64 bits
abbrev pub one_more : ℕ → ℕ
one_more count = (count + 1) % 2 ^ 64

-- the totals with what reading one more word answered
abbrev pub with_answer : Totals → Result ℤ NumFault → Totals
with_answer all (Ok number) = record all { words = one_more all.words; sum = int_wrapping_add w64 all.sum number }
with_answer all (Err NotWhole) = record all { words = one_more all.words; not_whole = one_more all.not_whole }
with_answer all (Err TooLarge) = record all { words = one_more all.words; too_large = one_more all.too_large }

abbrev pub with_word : Totals → Word → Totals
with_word all word = with_answer all (whole_of word.text)

abbrev pub with_line : Totals → TextLine → Totals
with_line all line = fold with_word all line.words

-- the totals of a text
abbrev pub totals_of : List ℕ → Totals
totals_of bytes = fold with_line (record { words = 0; not_whole = 0; too_large = 0; sum = pos 0; past = lines_past bytes }) (text_lines bytes)
