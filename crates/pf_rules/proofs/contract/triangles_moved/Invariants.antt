use Rattle.std.proofs.Common.{◌≡◌, ◌≤◌, length, take}
use Rattle.pf_rules.specs.Contract.{moved_tris}
use Rattle.pf_rules.proofs.contract.triangles_moved.Given as goal

abbrev pub invariant-loop-s : goal.invariant-loop-s
invariant-loop-s l = (l.tris.items ≡ moved_tris l.v (take l.s-index l.star)) × (length l.tris.items ≤ l.s-index)
