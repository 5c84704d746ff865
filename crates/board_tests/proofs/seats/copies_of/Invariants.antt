use Rattle.std.proofs.Common.{◌≡◌, drop, length}
use Rattle.pf_locks.specs.Lists.{list_in}
use Rattle.board_tests.proofs.seats.copies_of.Given as goal

abbrev pub invariant-loop-k : goal.invariant-loop-k
invariant-loop-k l = length (list_in (drop l.k-index l.kept) l.n) ≡ length (list_in l.kept l.n)
