use Rattle.pf_spokes.specs.Spokes.{HasSpots}
use Rattle.pf_driver.proofs.escaping.walk_planned.Given as goal

abbrev pub invariant-steps : goal.invariant-steps
invariant-steps l = HasSpots l.spot.tri
