use Rattle.tri_text.proofs.ReadEle.{TrianglesStand}
use Rattle.tri_text.proofs.ele.triangles.Given as goal

abbrev pub invariant-loop-place : goal.invariant-loop-place
invariant-loop-place l = TrianglesStand l.base l.vertices l.fn.lines.past l.count l.fn.lines.left l.lines.left l.lines.past l.place l.fits l.triangles.items
