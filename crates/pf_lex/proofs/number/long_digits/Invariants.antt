use Rattle.std.proofs.Common.{◌≡◌, ℕ, ◌<◌, ◌≤◌, true, get_or, take}
use Rattle.std.specs.Char.{is_ascii_digit}
use Rattle.pf_lex.specs.Number.{natural_value, number_limit}
use Rattle.pf_lex.proofs.number.long_digits.Given as goal

abbrev pub invariant-loop-n : goal.invariant-loop-n
invariant-loop-n l = record {
  run : (k : ℕ) → k < l.n → is_ascii_digit (get_or l.word k 0) ≡ true;
  value : l.value ≤ number_limit → natural_value (take l.n l.word) ≡ l.value;
  above : number_limit < l.value → number_limit < natural_value (take l.n l.word);
}
