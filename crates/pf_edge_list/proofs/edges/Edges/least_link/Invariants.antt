use Rattle.std.proofs.Common.{◌≡◌, ℕ, drop, filter}
use Rattle.std.specs.Prelude.{fold}
use Rattle.pf_model.specs.Mesh.{Undivided}
use Rattle.pf_model.specs.Conforming.{IsConforming}
use Rattle.pf_model.specs.Stars.{spokes_of}
use Rattle.pf_model.specs.Rows.{lesser, least_that}
use Rattle.pf_rules.specs.EdgeSides.{AreEdgeSides}
use Rattle.pf_edge_list.specs.Edges.{AreEdges}
use Rattle.pf_rules.specs.Contract.{is_link_at}
use Rattle.pf_edge_list.proofs.edges.Edges.least_link.Given as goal

abbrev pub invariant-loop-x : goal.invariant-loop-x
invariant-loop-x l = (m : Undivided) (u : ℕ) → IsConforming m → AreEdges m l.self → AreEdgeSides m.tris u l.v l.edge_sides → fold lesser l.least (filter (is_link_at m u l.v (spokes_of m l.v)) (drop l.x-index l.names)) ≡ least_that (is_link_at m u l.v (spokes_of m l.v)) l.names
