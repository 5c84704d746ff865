use Rattle.std.proofs.Common.{◌≡◌, ◌≤◌, ◌+◌, ◌*◌, [], length, map, take, drop, vec_capacity}
use Rattle.indexmap.specs.IndexMap.{spare}
use Rattle.pf_model.specs.Build.{turned_left, first_fault}
use Rattle.pf_apply.specs.BuildSteps.{earlier_from, AreAccepted}
use Rattle.pf_edges.specs.Table.{ShowsTriangles, HasSamePlaces}
use Rattle.pf_apply.proofs.building.enter_triangles.Given as goal

abbrev pub invariant-loop-corners : goal.invariant-loop-corners
invariant-loop-corners l =
    (l.tri ≡ l.corners-index)
    × (l.listed.items ≡ map (turned_left l.points) (take l.corners-index l.tris))
    × (vec_capacity l.fn.listed ≤ vec_capacity l.listed)
    × (3 * length l.tris ≤ spare l.table.sides + 3 * l.corners-index)
    × HasSamePlaces l.fn.table.nodes.items l.table.nodes.items
    × ShowsTriangles l.table.sides l.table.nodes.items (earlier_from l.points [] (take l.corners-index l.tris))
    × AreAccepted l.points (earlier_from l.points [] (take l.corners-index l.tris))
    × (first_fault l.points (earlier_from l.points [] (take l.corners-index l.tris)) l.corners-index (drop l.corners-index l.tris) ≡ first_fault l.points [] 0 l.tris)
