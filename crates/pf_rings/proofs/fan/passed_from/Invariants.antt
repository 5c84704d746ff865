use Rattle.std.proofs.Common.{◌-◌, length}
use Rattle.pf_model.proofs.Fans.{IsSimple}
use Rattle.pf_rings.proofs.Runs.{IsGoing}
use Rattle.pf_rings.proofs.fan.passed_from.Given as goal

abbrev pub invariant-turns : goal.invariant-turns
invariant-turns l = IsSimple l.spokes → IsGoing l.spokes l.start l.passed l.right

abbrev pub decreases-turns : goal.decreases-turns
decreases-turns l = length l.spokes - l.passed
