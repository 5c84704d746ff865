use Rattle.std.proofs.Common.{length}
use Rattle.text_tests.proofs.numbers.words_in.Given as goal

abbrev pub decreases-loop-words : goal.decreases-loop-words
decreases-loop-words g l = length l.lines.left
