use Rattle.std.proofs.Common.{◌≡◌, ℕ, ◌<◌, ◌^◌, true, get_or, take}
use Rattle.std.specs.Char.{is_ascii_digit}
use Rattle.pf_lex.specs.Number.{natural_value}
use Rattle.pf_lex.proofs.number.short_digits.Given as goal

abbrev pub invariant-loop-n : goal.invariant-loop-n
invariant-loop-n l = record {
  run : (k : ℕ) → k < l.n → is_ascii_digit (get_or l.word k 0) ≡ true;
  value : natural_value (take l.n l.word) ≡ l.value;
  small : l.value < 10 ^ l.n;
}
