use Rattle.std.proofs.Common.{◌≡◌, ◌≤◌, drop, vec_len, vec_capacity}
use Rattle.pf_model.specs.Rising.{IsRising}
use Rattle.pf_model.specs.Mesh.{tri_lt}
use Rattle.pf_model.specs.Exchange.{CanTake, without_all}
use Rattle.pf_apply.proofs.listing.remove_all.Given as goal

abbrev pub invariant-loop-t : goal.invariant-loop-t
invariant-loop-t l =
    IsRising tri_lt l.tris.items
    × CanTake (drop l.t-index l.fn.removed) l.tris.items
    × (without_all (drop l.t-index l.fn.removed) l.tris.items ≡ without_all l.fn.removed l.fn.tris.items)
    × (vec_capacity l.tris ≡ vec_capacity l.fn.tris)
    × (vec_len l.tris ≤ vec_len l.fn.tris)
