-- Twice the area is a sum over the boundary edges alone.
-- Assumes `IsConforming m`.
use Rattle.std.proofs.Common.{◌≡◌, ◌∙◌, arith}
use Rattle.std.specs.Prelude.{ℤ, pos, ◌+ℤ◌}
use Rattle.std.proofs.lemmas.Int.{ints}
use Rattle.pf_model.specs.Mesh.{Undivided, DirectedEdge, directed_edges_in, reversed, place_of, turn_at}
use Rattle.pf_model.specs.Conforming.{IsConforming}
use Rattle.pf_model.specs.Sums.{total, cross_of, cross_at, boundary_of, area2_of}
use Rattle.pf_model.proofs.Turns.{cross_of-swapped, orient_of-edges}
use Rattle.pf_model.proofs.Totals.{total-agree}
use Rattle.pf_model.proofs.EdgeSum.{conforming-sound, edge_sum}

pub area2_of-boundary : (m : Undivided) → IsConforming m → area2_of m ≡ total (cross_at m) (boundary_of m)
area2_of-boundary m ok =
    total-agree (λ t. turn_at m t.a t.b t.c) (λ t. total (cross_at m) (directed_edges_in t)) m.tris (λ t h. three (turn_at m t.a t.b t.c) (cross_of (place_of m t.a) (place_of m t.b)) (cross_of (place_of m t.b) (place_of m t.c)) (cross_of (place_of m t.c) (place_of m t.a)) (orient_of-edges (place_of m t.a) (place_of m t.b) (place_of m t.c)))
    ∙ edge_sum m.tris (conforming-sound m ok) (cross_at m) opposite
  where
    three : (x y z w : ℤ) → x ≡ y +ℤ z +ℤ w → x ≡ y +ℤ (z +ℤ (w +ℤ pos 0))
    three x y z w e = omega (arith, ints, e)

    opposite : (e : DirectedEdge) → cross_at m e +ℤ cross_at m (reversed e) ≡ pos 0
    opposite e = cross_of-swapped (place_of m e.from) (place_of m e.to)
