use Rattle.pf_finish.proofs.Spokes.{HasBefore}
use Rattle.pf_finish.proofs.wishes.star_wishes.Given as goal

abbrev pub invariant-spokes : goal.invariant-spokes
invariant-spokes l = HasBefore l.bands l.star l.found.items l.s-index
