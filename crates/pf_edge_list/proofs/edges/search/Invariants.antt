use Rattle.std.proofs.Common.{◌-◌, ◌≤◌, length}
use Rattle.pf_rules.specs.Lengths.{span_value}
use Rattle.pf_edge_list.specs.Edges.{AreRising, IsOnlyIn}
use Rattle.pf_edge_list.proofs.edges.search.Given as goal

abbrev pub invariant-halve : goal.invariant-halve
invariant-halve l =
    (l.end ≤ length l.edges)
    × (AreRising l.edges → IsOnlyIn l.edges (span_value l.e) l.fn.from l.fn.to → IsOnlyIn l.edges (span_value l.e) l.first l.end)

abbrev pub decreases-halve : goal.decreases-halve
decreases-halve l = l.end - l.first
