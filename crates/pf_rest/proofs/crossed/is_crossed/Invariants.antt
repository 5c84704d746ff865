use Rattle.std.proofs.Common.{ℕ, ◌<◌}
use Rattle.std.specs.Prelude.{slice_index_or}
use Rattle.pf_model.specs.Mesh.{Undivided}
use Rattle.pf_model.specs.Conforming.{IsConforming}
use Rattle.pf_rest.specs.Crossed.{IsClear}
use Rattle.pf_edge_list.specs.Edges.{AreEdges}
use Rattle.pf_rest.proofs.crossed.is_crossed.Given as goal

-- each of the names so far is clear
abbrev pub invariant-loop-v : goal.invariant-loop-v
invariant-loop-v l = (m : Undivided) → IsConforming m → AreEdges m l.edges → (k d : ℕ) → k < l.v-index → IsClear m l.star l.names (slice_index_or l.names k d)
