use Rattle.std.proofs.Common.{◌≡◌, ◌+◌, drop}
use Rattle.pf_locks.specs.Lists.{first_place}
use Rattle.pf_locks.proofs.kept.index_of.Given as goal

abbrev pub invariant-loop-k : goal.invariant-loop-k
invariant-loop-k l = (l.at ≡ l.k-index) × (l.at + first_place (drop l.k-index l.kept) l.n ≡ first_place l.kept l.n)
