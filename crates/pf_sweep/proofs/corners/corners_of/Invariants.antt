use Rattle.std.proofs.Common.{◌≡◌, ◌++◌, drop}
use Rattle.std.specs.Prelude.{flat_map}
use Rattle.pf_sweep.specs.Sweep.{turns_of}
use Rattle.pf_sweep.proofs.corners.corners_of.Given as goal

abbrev pub invariant-loop-t : goal.invariant-loop-t
invariant-loop-t l = l.list.items ++ flat_map turns_of (drop l.t-index l.tris) ≡ flat_map turns_of l.tris
