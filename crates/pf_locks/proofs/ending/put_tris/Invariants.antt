use Rattle.std.proofs.Common.{◌≡◌, ◌++◌, drop}
use Rattle.pf_locks.specs.Ends.{tris_from}
use Rattle.pf_locks.proofs.ending.put_tris.Given as goal

-- what was put, and what the spokes that are left give
abbrev pub invariant-loop-s : goal.invariant-loop-s
invariant-loop-s l = l.tris.items ++ tris_from l.node (drop l.s-index l.spokes) ≡ l.fn.tris.items ++ tris_from l.node l.spokes
