use Rattle.pf_rules.specs.Lengths.{span_value}
use Rattle.pf_edge_list.specs.Edges.{IsOnlyIn}
use Rattle.pf_edge_list.proofs.edges.scan.Given as goal

abbrev pub invariant-loop-place : goal.invariant-loop-place
invariant-loop-place l = IsOnlyIn l.edges (span_value l.e) l.from l.to → IsOnlyIn l.edges (span_value l.e) l.place l.to
