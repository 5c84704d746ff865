use Rattle.std.proofs.Common.{◌≡◌, ◌++◌, drop, take}
use Rattle.pf_sweep.specs.Sweep.{front_at, rest_from}
use Rattle.pf_sweep.proofs.corners.front.Given as goal

abbrev pub invariant-loop-i : goal.invariant-loop-i
invariant-loop-i l =
    (take l.i l.corners ++ front_at l.n (drop l.i l.corners) ≡ front_at l.n l.corners)
    × (rest_from l.n (drop l.i l.corners) ≡ rest_from l.n l.corners)
