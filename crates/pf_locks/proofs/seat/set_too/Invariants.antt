use Rattle.std.proofs.Common.{◌≡◌, ℕ, nat_lt, ◌||◌, ◌&&◌}
use Rattle.pf_locks.specs.Seats.{flag_at}
use Rattle.pf_locks.proofs.seat.set_too.Given as goal

abbrev pub invariant-loop-k : goal.invariant-loop-k
invariant-loop-k l = (j : ℕ) → flag_at l.numbers j ≡ (flag_at l.initial.numbers j || (nat_lt j l.k && flag_at l.other j))
