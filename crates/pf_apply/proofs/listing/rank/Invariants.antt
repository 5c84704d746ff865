use Rattle.std.proofs.Common.{◌≡◌, ℕ, ◌-◌, ◌<◌, ◌≤◌, true, false, length, get_or}
use Rattle.pf_model.specs.declared.Tri.{Tri}
use Rattle.pf_model.specs.Mesh.{tri_lt}
use Rattle.pf_apply.proofs.listing.rank.Given as goal

abbrev pub invariant-loop-low : goal.invariant-loop-low
invariant-loop-low l =
    (l.low ≤ l.high) × (l.high ≤ length l.tris)
    × ((k : ℕ) (d : Tri) → k < l.low → tri_lt l.fn.t (get_or l.tris k d) ≡ false)
    × ((k : ℕ) (d : Tri) → l.high ≤ k → k < length l.tris → tri_lt l.fn.t (get_or l.tris k d) ≡ true)

abbrev pub decreases-loop-low : goal.decreases-loop-low
decreases-loop-low l = l.high - l.low
