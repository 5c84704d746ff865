use Rattle.tri_text.proofs.ReadNode.{VerticesStand}
use Rattle.tri_text.proofs.node.vertices.Given as goal

abbrev pub invariant-loop-place : goal.invariant-loop-place
invariant-loop-place l = VerticesStand l.scale l.fn.lines.past l.count l.fn.lines.left l.lines.left l.lines.past l.place l.base l.fits l.points.items
