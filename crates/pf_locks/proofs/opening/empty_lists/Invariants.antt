use Rattle.std.proofs.Common.{◌≡◌, ℕ, [], vec_len}
use Rattle.pf_locks.specs.Closes.{list_at}
use Rattle.pf_locks.proofs.opening.empty_lists.Given as goal

abbrev pub invariant-loop-n : goal.invariant-loop-n
invariant-loop-n l = ((k : ℕ) → list_at l.lists.items k ≡ []) × (vec_len l.lists ≡ l.n)
