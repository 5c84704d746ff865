use Rattle.std.proofs.Common.{◌≡◌, ◌-◌, drop, length}
use Rattle.std.specs.Prelude.{All, vec_len}
use Rattle.pf_geom.specs.Plane.{IsInRange}
use Rattle.pf_sweep.specs.Points.{ArePoints}
use Rattle.pf_sweep.proofs.points.put_points.Given as goal

abbrev pub invariant-loop-k : goal.invariant-loop-k
invariant-loop-k l =
    (vec_len l.points ≡ vec_len l.fn.points)
    × ArePoints l.points.items (drop (length l.sites - l.k) l.sites)
    × All IsInRange l.points.items
