use Rattle.std.specs.Prelude.{All}
use Rattle.pf_geom.specs.Plane.{IsInRange}
use Rattle.small_meshes.proofs.points_at.Given as goal

abbrev pub invariant-loop-x : goal.invariant-loop-x
invariant-loop-x l = All IsInRange l.points.items
