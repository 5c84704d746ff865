use Rattle.std.proofs.Common.{◌≡◌, ◌++◌, drop}
use Rattle.pf_core.specs.Part.{tris_at}
use Rattle.pf_core.proofs.part.push_tris.Given as goal

abbrev pub invariant-loop-s : goal.invariant-loop-s
invariant-loop-s l = l.list.items ++ tris_at l.nodes l.n (drop l.s-index l.spokes) ≡ l.fn.list.items ++ tris_at l.nodes l.n l.spokes
