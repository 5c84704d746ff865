use Rattle.std.proofs.Common.{◌≡◌, length}
use Rattle.std.specs.Prelude.{fold}
use Rattle.lex_speed.specs.Count.{with_word, with_line, totals_of}
use Rattle.lex_speed.proofs.totals_of.Given as goal

abbrev pub invariant-loop-words : goal.invariant-loop-words
invariant-loop-words l = fold with_line l.all l.lines.left ≡ totals_of l.bytes

abbrev pub decreases-loop-words : goal.decreases-loop-words
decreases-loop-words l = length l.lines.left

abbrev pub invariant-loop-token : goal.invariant-loop-token
invariant-loop-token l =
    (goal.iterator-loop-token).can_next l.token-iterator ×
    (goal.iterator-loop-token).is_finite l.token-iterator ×
    (fold with_word l.all l.token-iterator.words ≡ fold with_word l.initial.all l.initial.token-iterator.words)
