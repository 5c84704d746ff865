-- The search gives the first newline, or there is none.
use Rattle.std.proofs.Common.{◌≡◌, ℕ, Bool, true, false, not, List, length, refl, sym, ◌∙◌, ap, arith}
use Rattle.std.specs.Prelude.{Option, None, Some}
use Rattle.std.specs.Option.{unwrap_or}
use Rattle.std.specs.List.{position_or_len}
use Rattle.std.proofs.lemmas.List.Sums.{prefix_len_is}
use Rattle.memchr.specs.Find.{IsFirstByte, is_byte}
use Rattle.pf_lex.specs.Text.{is_newline}
use Rattle.pf_lex.proofs.RunLemmas.{whole_run}
use Rattle.pf_lex.proofs.scan.line_len.Goals as goal

other : (b : Bool) → ¬ (b ≡ true) → not b ≡ true
other true is_not = absurd (is_not refl)
other false is_not = refl

first_newline : (xs : List ℕ) (found : Option ℕ) → IsFirstByte (is_byte 10) xs found → unwrap_or found (length xs) ≡ position_or_len is_newline xs
first_newline xs None nowhere = whole_run (λ x. not (is_newline x)) xs (length xs) (omega arith) (λ k h. other _ (nowhere k (omega arith) h))
first_newline xs (Some n) first =
    sym (prefix_len_is (λ x. not (is_newline x)) xs n 0 (omega (arith, first.0.high)) (λ k h. other _ (first.0.before k (omega arith) h)) (λ _. ap not first.1))

pub returns-clause-run : goal.returns-clause-run
returns-clause-run c = c.unwrap_or.ensures ∙ first_newline c.args.bytes.now c.memchr.result c.memchr.ensures
