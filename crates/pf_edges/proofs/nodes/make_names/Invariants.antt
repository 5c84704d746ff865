use Rattle.std.proofs.Common.{◌≡◌, ℕ, suc, ◌-◌, ◌≤◌, length}
use Rattle.std.specs.Prelude.{slice_index_or, vec_capacity}
use Rattle.pf_edges.specs.Table.{no_node}
use Rattle.pf_edges.proofs.nodes.make_names.Given as goal

abbrev pub invariant-loop-nodes : goal.invariant-loop-nodes
invariant-loop-nodes l =
    ((k : ℕ) → slice_index_or l.nodes.items k no_node ≡ slice_index_or l.fn.nodes.items k no_node)
    × (length l.fn.nodes.items ≤ length l.nodes.items)
    × (vec_capacity l.fn.nodes ≤ vec_capacity l.nodes)

abbrev pub decreases-loop-nodes : goal.decreases-loop-nodes
decreases-loop-nodes l = suc l.n - length l.nodes.items
