use Rattle.std.proofs.Common.{◌≡◌, ◌++◌, List, drop}
use Rattle.std.specs.Prelude.{filter, map}
use Rattle.pf_model.specs.declared.Tri.{Tri}
use Rattle.pf_model.specs.Sums.{is_open}
use Rattle.pf_sums.specs.Edges.{edge_at, AreEdgesOf}
use Rattle.pf_sums.proofs.edges.open_edges.Given as goal

-- what was taken, and what is to be taken of what is left, are the whole
abbrev pub invariant-loop-edge : goal.invariant-loop-edge
invariant-loop-edge l = (ts : List Tri) → AreEdgesOf ts l.edges → map edge_at l.open.items ++ filter (is_open ts) (map edge_at (drop l.edge-index l.edges)) ≡ filter (is_open ts) (map edge_at l.edges)
