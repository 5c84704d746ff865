use Rattle.std.proofs.Common.{◌≡◌, ◌-◌, ◌+◌, ◌*◌, ◌≤◌, drop, length}
use Rattle.indexmap.specs.IndexMap.{spare}
use Rattle.pf_edges.specs.Table.{ShowsTriangles, HasSamePlaces}
use Rattle.pf_mesh.proofs.entering.enter_listed.Given as goal

abbrev pub invariant-loop-k : goal.invariant-loop-k
invariant-loop-k l =
    ShowsTriangles l.table.sides l.table.nodes.items (drop (length l.tris - l.k) l.tris)
    × HasSamePlaces l.fn.table.nodes.items l.table.nodes.items
    × (3 * length l.tris ≤ spare l.table.sides + 3 * l.k)
