use Rattle.std.proofs.Common.{length}
use Rattle.journal_text.proofs.ReadLemmas.{EntriesStand}
use Rattle.journal_text.proofs.read.entries.Given as goal

abbrev pub invariant-loop-words : goal.invariant-loop-words
invariant-loop-words l = EntriesStand l.fn.lines.past l.fn.lines.left l.lines.left l.lines.past l.due l.fits l.entries.items

abbrev pub decreases-loop-words : goal.decreases-loop-words
decreases-loop-words l = length l.lines.left
