use Rattle.std.proofs.Common.{◌≡◌, ◌+◌, ◌≤◌, List, length, drop}
use Rattle.std.specs.Prelude.{filter, map}
use Rattle.pf_model.specs.declared.Tri.{Tri}
use Rattle.pf_model.specs.Sums.{is_counted}
use Rattle.pf_sums.specs.Edges.{edge_at, AreEdgesOf}
use Rattle.pf_sums.proofs.edges.count_edges.Given as goal

-- what was counted, and what is left to count, are the whole
abbrev pub invariant-loop-from : goal.invariant-loop-from
invariant-loop-from l = record {
  counted : (ts : List Tri) → AreEdgesOf ts l.edges → l.count + length (filter (is_counted ts) (map edge_at (drop l.from-index l.edges))) ≡ length (filter (is_counted ts) (map edge_at l.edges));
  few : l.count ≤ l.from-index;
}
