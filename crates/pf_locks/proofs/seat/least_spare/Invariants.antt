use Rattle.std.proofs.Common.{◌≡◌, ℕ, ◌<◌, true}
use Rattle.pf_locks.specs.Seats.{flag_at}
use Rattle.pf_locks.proofs.seat.least_spare.Given as goal

abbrev pub invariant-loop-k : goal.invariant-loop-k
invariant-loop-k l = (j : ℕ) → j < l.k → flag_at l.numbers j ≡ true → j ≡ l.own
