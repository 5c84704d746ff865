use Rattle.std.proofs.Common.{◌≡◌, drop}
use Rattle.board_tests.specs.Holding.{is_kept}
use Rattle.board_tests.proofs.seats.keeps.Given as goal

abbrev pub invariant-loop-k : goal.invariant-loop-k
invariant-loop-k l = is_kept (drop l.k-index l.kept) l.n ≡ is_kept l.kept l.n
