use Rattle.std.proofs.Common.{ℕ, ◌-◌, ◌<◌, ◌≤◌, length, get_or}
use Rattle.pf_model.specs.declared.Site.{Site}
use Rattle.pf_apply.proofs.sites.place.Given as goal

abbrev pub invariant-loop-low : goal.invariant-loop-low
invariant-loop-low l =
    (l.low ≤ l.high) × (l.high ≤ length l.sites)
    × ((k : ℕ) (d : Site) → k < l.low → (get_or l.sites k d).name < l.fn.n)
    × ((k : ℕ) (d : Site) → l.high ≤ k → k < length l.sites → l.fn.n ≤ (get_or l.sites k d).name)

abbrev pub decreases-loop-low : goal.decreases-loop-low
decreases-loop-low l = l.high - l.low
