use Rattle.std.proofs.Common.{◌≡◌, ◌++◌, ◌≤◌, ◌-◌}
use Rattle.std.specs.Prelude.{Some}
use Rattle.pf_core_model.specs.Sharers.{sharers_from, sharers_in}
use Rattle.pf_ghost.specs.Copies.{copy_for}
use Rattle.pf_ghost.proofs.sharers.put_copies.Given as goal

abbrev pub invariant-owners : goal.invariant-owners
invariant-owners l = (l.first ≤ l.chunks) × ((l.list.items ++ copy_for l.last l.star) ++ sharers_from l.first (l.chunks - l.first) (Some l.star) ≡ sharers_in l.chunks (Some l.star))

abbrev pub decreases-owners : goal.decreases-owners
decreases-owners l = l.chunks - l.first
