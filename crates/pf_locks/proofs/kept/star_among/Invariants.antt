use Rattle.std.proofs.Common.{◌≡◌, drop}
use Rattle.pf_locks.specs.Lists.{lent_in}
use Rattle.pf_locks.proofs.kept.star_among.Given as goal

abbrev pub invariant-loop-k : goal.invariant-loop-k
invariant-loop-k l = lent_in (drop l.k-index l.kept) l.n ≡ lent_in l.kept l.n
