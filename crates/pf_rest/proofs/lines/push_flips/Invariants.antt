use Rattle.std.proofs.Common.{◌≡◌, ◌++◌, drop, map}
use Rattle.std.specs.Prelude.{flat_map}
use Rattle.pf_model.specs.Mesh.{Undivided}
use Rattle.pf_model.specs.Conforming.{IsConforming}
use Rattle.pf_model.specs.Wishes.{flip_lines}
use Rattle.pf_edge_list.specs.Edges.{sided_edge}
use Rattle.pf_edges.specs.Table.{Shows}
use Rattle.pf_rest.proofs.lines.push_flips.Given as goal

-- the lines that were written, and those of the edges that are left, are all
abbrev pub invariant-loop-e : goal.invariant-loop-e
invariant-loop-e l =
    (m : Undivided) → IsConforming m → Shows l.table.sides l.table.nodes.items m
    → l.lines.items ++ flat_map (flip_lines m) (map sided_edge (drop l.e-index l.edges)) ≡ l.fn.lines.items ++ flat_map (flip_lines m) (map sided_edge l.edges)
