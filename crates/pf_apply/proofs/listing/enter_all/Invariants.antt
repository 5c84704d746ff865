use Rattle.std.proofs.Common.{◌≡◌, ◌≤◌, ◌+◌, drop, length, vec_len, vec_capacity}
use Rattle.pf_model.specs.Rising.{IsRising, insert_all_by}
use Rattle.pf_model.specs.Mesh.{tri_lt}
use Rattle.pf_apply.proofs.listing.enter_all.Given as goal

abbrev pub invariant-loop-left : goal.invariant-loop-left
invariant-loop-left l =
    IsRising tri_lt l.tris.items
    × (l.left ≤ length l.fn.new)
    × (vec_len l.tris + l.left ≡ vec_len l.fn.tris + length l.fn.new)
    × (vec_capacity l.fn.tris ≤ vec_capacity l.tris)
    × (l.tris.items ≡ insert_all_by tri_lt (drop l.left l.fn.new) l.fn.tris.items)

abbrev pub decreases-loop-left : goal.decreases-loop-left
decreases-loop-left l = l.left
