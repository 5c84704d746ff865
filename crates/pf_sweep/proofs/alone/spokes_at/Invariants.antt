use Rattle.std.proofs.Common.{◌≡◌, ◌++◌, drop}
use Rattle.std.specs.Prelude.{filter_map, map}
use Rattle.pf_sweep.specs.Sweep.{corner_at, spoke_by}
use Rattle.pf_sweep.proofs.alone.spokes_at.Given as goal

abbrev pub invariant-loop-t : goal.invariant-loop-t
invariant-loop-t l = l.list.items ++ map (spoke_by l.points) (filter_map (corner_at l.n) (drop l.t-index l.tris)) ≡ map (spoke_by l.points) (filter_map (corner_at l.n) l.tris)
