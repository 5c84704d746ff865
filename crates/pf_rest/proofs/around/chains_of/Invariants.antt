use Rattle.std.proofs.Common.{◌≤◌, length}
use Rattle.pf_rest.proofs.around.chains_of.Given as goal

abbrev pub decreases-places : goal.decreases-places
decreases-places l = l.place

abbrev pub invariant-places : goal.invariant-places
invariant-places l = l.place ≤ length l.edges
