use Rattle.std.proofs.Common.{◌≡◌, ◌++◌, drop}
use Rattle.std.specs.Prelude.{map}
use Rattle.pf_sweep.specs.Sweep.{spoke_by}
use Rattle.pf_sweep.proofs.sweep.spokes_of.Given as goal

abbrev pub invariant-loop-c : goal.invariant-loop-c
invariant-loop-c l = l.list.items ++ map (spoke_by l.points) (drop l.c-index l.corners) ≡ map (spoke_by l.points) l.corners
