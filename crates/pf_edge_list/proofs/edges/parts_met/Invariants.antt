use Rattle.std.proofs.Common.{◌≡◌, ◌++◌, drop, map, All}
use Rattle.pf_model.specs.Mesh.{Undivided}
use Rattle.pf_edge_list.specs.declared.edges.Corner.{Corner}
use Rattle.pf_edge_list.specs.Edges.{counted_from, part_of, sided_edge, IsListed}
use Rattle.pf_edges.specs.Table.{Shows}
use Rattle.pf_edge_list.proofs.edges.parts_met.Given as goal

-- the edges that were taken from a corner, and those of the triangles that are left, are all from there
abbrev pub invariant-loop-at : goal.invariant-loop-at
invariant-loop-at l =
    ((m : Undivided) → Shows l.table.sides l.table.nodes.items m → (corner : Corner) → map sided_edge (part_of corner l.parts) ++ counted_from m.tris corner (drop l.at l.tris) ≡ counted_from m.tris corner l.tris)
    × ((corner : Corner) → All (IsListed l.table.sides) (part_of corner l.parts))
