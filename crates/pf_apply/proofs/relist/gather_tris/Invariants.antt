use Rattle.std.proofs.Common.{◌≡◌, ◌≤◌, ◌++◌, vec_capacity}
use Rattle.pf_apply.specs.Relist.{least_tris}
use Rattle.pf_apply.proofs.relist.gather_tris.Given as goal

abbrev pub invariant-loop-edge : goal.invariant-loop-edge
invariant-loop-edge l = (vec_capacity l.fn.tris ≤ vec_capacity l.tris) × (l.tris.items ++ least_tris l.edge-iterator ≡ least_tris l.sides.entries)
