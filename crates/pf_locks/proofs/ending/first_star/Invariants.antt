use Rattle.std.proofs.Common.{◌≡◌, drop}
use Rattle.pf_core_model.specs.Sharers.{kept_in}
use Rattle.pf_locks.proofs.ending.first_star.Given as goal

abbrev pub invariant-loop-copy : goal.invariant-loop-copy
invariant-loop-copy l = kept_in (drop l.copy-index l.copies) ≡ kept_in l.fn.copies
