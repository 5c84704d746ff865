use Rattle.std.proofs.Common.{◌≡◌, ℕ, ◌<◌, true, get_or}
use Rattle.std.specs.Prelude.{int_le}
use Rattle.pf_model.specs.declared.Band.{Band}
use Rattle.pf_rest.proofs.close.strictest.Given as goal

-- each band that was looked at allows it
abbrev pub invariant-loop-row : goal.invariant-loop-row
invariant-loop-row l = (k : ℕ) (d : Band) → k < l.row-index → int_le l.least (get_or l.bands k d).max2 ≡ true
