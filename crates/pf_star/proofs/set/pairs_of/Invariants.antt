use Rattle.std.proofs.Common.{◌≡◌, map}
use Rattle.pf_star.specs.Sets.{pair_of}
use Rattle.pf_star.proofs.set.pairs_of.Given as goal

abbrev pub invariant-loop-star : goal.invariant-loop-star
invariant-loop-star l = l.pairs.items ≡ map pair_of l.yielded
