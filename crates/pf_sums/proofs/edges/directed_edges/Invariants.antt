use Rattle.std.proofs.Common.{◌≡◌, ◌++◌, drop}
use Rattle.std.specs.Prelude.{map}
use Rattle.pf_model.specs.Mesh.{directed_edges_of}
use Rattle.pf_sums.specs.Edges.{edge_at}
use Rattle.pf_sums.proofs.edges.directed_edges.Given as goal

-- the edges that were taken, and those of the triangles that are left, are all
abbrev pub invariant-loop-t : goal.invariant-loop-t
invariant-loop-t l = map edge_at l.edges.items ++ directed_edges_of (drop l.t-index l.tris) ≡ directed_edges_of l.tris
