use Rattle.std.proofs.Common.{◌-◌, length}
use Rattle.pf_edge_list.specs.Edges.{IsBelow}
use Rattle.pf_edge_list.proofs.edges.start_from.Given as goal

abbrev pub invariant-pass : goal.invariant-pass
invariant-pass l = IsBelow l.edges l.name l.from → IsBelow l.edges l.name l.place

abbrev pub decreases-pass : goal.decreases-pass
decreases-pass l = length l.edges - l.place
