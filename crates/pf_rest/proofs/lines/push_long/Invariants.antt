use Rattle.std.proofs.Common.{◌≡◌, ◌++◌, drop, map}
use Rattle.std.specs.Prelude.{flat_map}
use Rattle.pf_model.specs.Mesh.{Undivided}
use Rattle.pf_model.specs.Conforming.{IsConforming}
use Rattle.pf_model.specs.Wishes.{long_lines}
use Rattle.pf_edge_list.specs.Edges.{sided_edge}
use Rattle.pf_rest.specs.Rest.{AreAtEnds}
use Rattle.pf_edges.specs.Table.{Shows}
use Rattle.pf_rest.proofs.lines.push_long.Given as goal

-- what was noted is true, and the lines that were written, and those of the edges that are left, are all
abbrev pub invariant-loop-place : goal.invariant-loop-place
invariant-loop-place l =
    (m : Undivided) → IsConforming m → Shows l.table.sides l.table.nodes.items m → m.bands ≡ l.bands
    → AreAtEnds m l.edges.list.items l.ends.items
    × (l.lines.items ++ flat_map (long_lines m) (map sided_edge (drop l.place l.edges.list.items)) ≡ l.fn.lines.items ++ flat_map (long_lines m) (map sided_edge l.edges.list.items))
