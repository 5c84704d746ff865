use Rattle.std.proofs.Common.{◌≡◌, is_some}
use Rattle.std.specs.Prelude.{drop}
use Rattle.pf_core_model.specs.Sharers.{kept_in}
use Rattle.pf_hand.proofs.next.has_copy.Given as goal

abbrev pub invariant-loop : goal.invariant-loop
invariant-loop l = is_some (kept_in (drop l.index l.items)) ≡ is_some (kept_in l.list)
