use Rattle.std.proofs.Common.{◌≡◌, ℕ, ◌<◌, get_or, false}
use Rattle.pf_model.specs.declared.Spoke.{Spoke}
use Rattle.pf_model.specs.Stars.{spoke_lt}
use Rattle.pf_patch.proofs.put.place_of_spoke.Given as goal

abbrev pub invariant-loop-i : goal.invariant-loop-i
invariant-loop-i l = (k : ℕ) (d : Spoke) → k < l.i → spoke_lt l.spoke (get_or l.spokes k d) ≡ false
