use Rattle.std.proofs.Common.{◌≡◌, ℕ, ◌<◌, true, get_or}
use Rattle.pf_lex.specs.Text.{is_gap}
use Rattle.pf_lex.proofs.scan.gap_len.Given as goal

abbrev pub invariant-loop-n : goal.invariant-loop-n
invariant-loop-n l = (k : ℕ) → k < l.n → is_gap (get_or l.bytes k 0) ≡ true
