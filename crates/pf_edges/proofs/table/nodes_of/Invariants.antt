use Rattle.std.proofs.Common.{◌≡◌, ℕ, length, take}
use Rattle.pf_model.specs.Build.{point_at}
use Rattle.pf_edges.specs.Table.{place_at, triangles_at}
use Rattle.pf_edges.proofs.table.nodes_of.Given as goal

abbrev pub invariant-loop-at : goal.invariant-loop-at
invariant-loop-at l =
    (length l.nodes.items ≡ l.at-index)
    × ((n : ℕ) → place_at l.nodes.items n ≡ point_at (take l.at-index l.points) n)
    × ((n : ℕ) → triangles_at l.nodes.items n ≡ 0)
