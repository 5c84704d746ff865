use Rattle.std.proofs.Common.{◌≡◌, ◌-◌, drop, length}
use Rattle.pf_model.specs.Stars.{keeper_in}
use Rattle.pf_rings.proofs.spokes.least_owner.Given as goal

abbrev pub invariant-loop-k : goal.invariant-loop-k
invariant-loop-k l = l.least ≡ keeper_in (drop (length l.spokes - l.k) l.spokes)
