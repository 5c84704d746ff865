use Rattle.std.proofs.Common.{◌≡◌, length}
use Rattle.pf_edge_list.specs.Edges.{AreRising, AreStarts, IsBelow}
use Rattle.pf_edge_list.proofs.edges.starts_of.Given as goal

abbrev pub invariant-loop-name : goal.invariant-loop-name
invariant-loop-name l =
    (length l.starts.items ≡ l.name)
    × (AreRising l.edges → IsBelow l.edges l.name l.place × AreStarts l.edges l.starts.items)
