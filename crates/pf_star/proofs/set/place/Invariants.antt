use Rattle.std.proofs.Common.{ℕ, ◌-◌, ◌<◌, ◌≤◌, length, get_or}
use Rattle.pf_star_model.specs.Lent.{Held}
use Rattle.pf_star.proofs.set.place.Given as goal

abbrev pub invariant-halves : goal.invariant-halves
invariant-halves l =
    (l.low ≤ l.high) × (l.high ≤ length l.pairs)
    × ((k : ℕ) (d : Held) → k < l.low → (get_or l.pairs k d).node < l.fn.n)
    × ((k : ℕ) (d : Held) → l.high ≤ k → k < length l.pairs → l.fn.n ≤ (get_or l.pairs k d).node)

abbrev pub decreases-halves : goal.decreases-halves
decreases-halves l = l.high - l.low
