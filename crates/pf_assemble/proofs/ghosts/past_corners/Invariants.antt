use Rattle.std.proofs.Common.{◌≡◌, drop}
use Rattle.pf_assemble.specs.Names.{past_corners}
use Rattle.pf_assemble.proofs.ghosts.past_corners.Given as goal

-- what the triangles that are left will make of the number
abbrev pub invariant-tris : goal.invariant-tris
invariant-tris l = past_corners l.most (drop l.t-index l.tris) ≡ past_corners 0 l.tris
