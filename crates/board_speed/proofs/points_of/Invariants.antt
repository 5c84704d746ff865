use Rattle.std.proofs.Common.{All}
use Rattle.pf_geom.specs.Plane.{IsInRange}
use Rattle.board_speed.proofs.points_of.Given as goal

abbrev pub invariant-loop-x : goal.invariant-loop-x
invariant-loop-x l = All IsInRange l.points.items

abbrev pub invariant-loop-y : goal.invariant-loop-y
invariant-loop-y l = All IsInRange l.points.items
