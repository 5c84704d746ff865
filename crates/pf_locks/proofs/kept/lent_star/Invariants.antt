use Rattle.std.proofs.Common.{◌≡◌, drop}
use Rattle.pf_core_model.specs.Sharers.{kept_in}
use Rattle.pf_locks.proofs.kept.lent_star.Given as goal

abbrev pub invariant-loop-s : goal.invariant-loop-s
invariant-loop-s l = kept_in (drop l.s-index l.s-items) ≡ kept_in l.kept.list
