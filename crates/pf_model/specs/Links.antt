-- The link condition, over the mesh whose boundary is coned with one extra vertex.
use Rattle.std.specs.Prelude.{◌≡◌, ℕ, List, true, Option, Some, None, Contains, ◌⊎◌}
use Rattle.pf_model.specs.declared.Tri.{Tri}
use Rattle.pf_model.specs.Mesh.{tri_of}
use Rattle.pf_model.specs.Stars.{is_boundary_edge}

-- the triangle p, q, z stands, with some owner
pub record HasTriangle (ts : List Tri) (p q z : ℕ) : Type 0 where
  pub owner : ℕ
  pub stands : Contains ts (tri_of p q z owner)

-- a triangle of the coned mesh, in any turn. None is the extra vertex: a boundary edge p to q makes the triangle None, q, p
abbrev pub IsConed : List Tri → Option ℕ → Option ℕ → Option ℕ → Type 0
IsConed ts (Some p) (Some q) (Some z) = HasTriangle ts p q z
IsConed ts None (Some q) (Some p) = is_boundary_edge ts p q ≡ true
IsConed ts (Some q) (Some p) None = is_boundary_edge ts p q ≡ true
IsConed ts (Some p) None (Some q) = is_boundary_edge ts p q ≡ true
IsConed ts None None z = ⊥
IsConed ts None (Some q) None = ⊥
IsConed ts (Some p) None None = ⊥

-- the link of n has the edge x, y: they are the further corners of a triangle at n
abbrev pub IsLinkEdge : List Tri → ℕ → Option ℕ → Option ℕ → Type 0
IsLinkEdge ts n x y = IsConed ts (Some n) x y ⊎ IsConed ts (Some n) y x

-- the link of n has the vertex x: it is a neighbour
abbrev pub IsLinkVertex : List Tri → ℕ → Option ℕ → Type 0
IsLinkVertex ts n x = (y : Option ℕ) × IsLinkEdge ts n x y

-- the link of the edge u, v has the vertex x: it is the third corner of a triangle at the edge
abbrev pub IsOpposite : List Tri → ℕ → ℕ → Option ℕ → Type 0
IsOpposite ts u v x = IsConed ts (Some u) (Some v) x ⊎ IsConed ts (Some v) (Some u) x

-- the links of u and v meet exactly in the link of the edge u, v
pub record MeetsLinkCondition (ts : List Tri) (u v : ℕ) : Type 0 where
  pub vertices : (x : Option ℕ) → IsLinkVertex ts u x → IsLinkVertex ts v x → IsOpposite ts u v x
  pub opposites : (x : Option ℕ) → IsOpposite ts u v x → IsLinkVertex ts u x × IsLinkVertex ts v x
  pub edges : (x y : Option ℕ) → IsLinkEdge ts u x y → IsLinkEdge ts v x y → ⊥
