use Rattle.table_text.proofs.PartLemmas.{PartStands}
use Rattle.table_text.proofs.part.partition.Given as goal

abbrev pub invariant-loop : goal.invariant-loop
invariant-loop l = PartStands l.fn.lines.past l.triangles l.fn.lines.left l.lines.left l.lines.past l.counter l.chunks l.fits l.owners.items
