-- What stands on both sides of an edge.
use Rattle.std.specs.Prelude.{◌≡◌, ℕ, List, Option}
use Rattle.pf_model.specs.declared.Tri.{Tri}
use Rattle.pf_model.specs.Mesh.{side_of}
use Rattle.pf_model.specs.declared.Side.{Side}
use Rattle.pf_rules.specs.declared.edge_sides.EdgeSides.{EdgeSides}

-- these are the sides that the triangles have left and right of the directed edge p to q
pub record AreEdgeSides (ts : List Tri) (p q : ℕ) (edge_sides : EdgeSides) : Type 0 where
  pub on_left : edge_sides.left ≡ side_of ts p q
  pub on_right : edge_sides.right ≡ side_of ts q p

-- they are the sides that a look-up finds there
pub record AreFoundSides (side : ℕ → ℕ → Option Side) (p q : ℕ) (edge_sides : EdgeSides) : Type 0 where
  pub on_left : edge_sides.left ≡ side p q
  pub on_right : edge_sides.right ≡ side q p
