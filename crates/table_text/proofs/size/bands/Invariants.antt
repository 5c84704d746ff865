use Rattle.std.proofs.Common.{length}
use Rattle.table_text.proofs.SizeLemmas.{BandsStand}
use Rattle.table_text.proofs.size.bands.Given as goal

abbrev pub invariant-loop-words : goal.invariant-loop-words
invariant-loop-words l = BandsStand l.fn.lines.left l.lines.left l.above l.fits l.bands.items

abbrev pub decreases-loop-words : goal.decreases-loop-words
decreases-loop-words l = length l.lines.left
