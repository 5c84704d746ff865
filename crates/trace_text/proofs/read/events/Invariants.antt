use Rattle.std.proofs.Common.{length}
use Rattle.trace_text.proofs.ReadLemmas.{EventsStand}
use Rattle.trace_text.proofs.read.events.Given as goal

abbrev pub invariant-loop-words : goal.invariant-loop-words
invariant-loop-words l = EventsStand l.fn.lines.left l.lines.left l.fits l.events.items

abbrev pub decreases-loop-words : goal.decreases-loop-words
decreases-loop-words l = length l.lines.left
