use Rattle.std.proofs.Common.{◌≡◌, ◌+◌, ◌≤◌, ◌++◌, map, vec_len}
use Rattle.std.specs.Prelude.{vec_capacity}
use Rattle.pf_locks.specs.Closes.{shown_copy, copies_back}
use Rattle.pf_locks.proofs.closing.put_copies.Given as goal

abbrev pub invariant-copies : goal.invariant-copies
invariant-copies l =
    (map shown_copy l.list.items ++ copies_back l.left.items ≡ map shown_copy l.initial.list.items ++ copies_back l.initial.left.items)
    × (vec_len l.list + vec_len l.left ≤ vec_capacity l.list)
    × (vec_capacity l.list ≡ vec_capacity l.initial.list)

abbrev pub decreases-copies : goal.decreases-copies
decreases-copies l = vec_len l.left
