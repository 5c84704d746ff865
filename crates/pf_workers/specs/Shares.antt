-- How a budget is shared among workers.
use Rattle.std.specs.Prelude.{ℕ, zero, suc, ◌+◌, ◌/◌, ◌%◌, cond, nat_lt}

-- a worker's share: an equal part, rounded down, and one more for each of the first, as many as the rest
abbrev pub share_of : ℕ → ℕ → ℕ → ℕ
share_of budget workers worker = budget / workers + cond (nat_lt worker (budget % workers)) 1 0

-- the shares of so many workers from this one on, added up
abbrev pub shares_from : ℕ → ℕ → ℕ → ℕ → ℕ
shares_from budget workers worker zero = 0
shares_from budget workers worker (suc n) = share_of budget workers worker + shares_from budget workers (suc worker) n
