use Rattle.std.proofs.Common.{◌≡◌, ◌++◌, drop}
use Rattle.pf_sweep.specs.Sweep.{grouped}
use Rattle.pf_sweep.proofs.sweep.group.Given as goal

abbrev pub invariant-loop-site : goal.invariant-loop-site
invariant-loop-site l = l.stars.items ++ grouped l.points (drop l.site-index l.sites) l.left ≡ grouped l.points l.sites l.corners
