use Rattle.std.proofs.Common.{◌≡◌, take}
use Rattle.pf_rules.specs.Contract.{star_tris}
use Rattle.pf_rules.proofs.contract.triangles_of.Given as goal

abbrev pub invariant-loop-s : goal.invariant-loop-s
invariant-loop-s l = l.tris.items ≡ star_tris l.u (take l.s-index l.star)
