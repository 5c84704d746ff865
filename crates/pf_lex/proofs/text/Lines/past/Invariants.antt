use Rattle.std.proofs.Common.{◌≡◌, ◌+◌, ◌≤◌, length}
use Rattle.pf_lex.specs.Text.{lines_past_from}
use Rattle.pf_lex.proofs.text.Lines.past.Given as goal

abbrev pub invariant-loop-rest : goal.invariant-loop-rest
invariant-loop-rest l =
    (lines_past_from l.line l.rest ≡ l.self.past) × (l.line + length l.rest ≤ 268435457)

abbrev pub decreases-loop-rest : goal.decreases-loop-rest
decreases-loop-rest l = length l.rest
