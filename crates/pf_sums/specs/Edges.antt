-- The directed edges of a mesh as pairs of names: from the first to the second.
use Rattle.std.specs.Prelude.{ℕ, List, map}
use Rattle.std.specs.Ordering.{nat_cmp, ordering_then}
use Rattle.std.specs.declared.cmp.Ordering.{Ordering}
use Rattle.std.specs.List.Sorted.{IsPermutation, IsSorted}
use Rattle.pf_model.specs.declared.Tri.{Tri}
use Rattle.pf_model.specs.Mesh.{DirectedEdge, directed_edges_of}

-- the directed edge that a pair of names is
abbrev pub edge_at : ℕ × ℕ → DirectedEdge
edge_at pair = record { from = pair.0; to = pair.1 }

-- the order of pairs: by the first name, then the second
abbrev pub pair_cmp : ℕ × ℕ → ℕ × ℕ → Ordering
pair_cmp x y = ordering_then (nat_cmp x.0 y.0) (nat_cmp x.1 y.1)

-- the list has the directed edges of the triangles, in rising order
pub record AreEdgesOf (ts : List Tri) (edges : List (ℕ × ℕ)) : Type 0 where
  pub same : IsPermutation (directed_edges_of ts) (map edge_at edges)
  pub sorted : IsSorted pair_cmp edges
