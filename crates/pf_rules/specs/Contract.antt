-- The conditions of a contraction that are asked of the star of the node that goes, and what the contraction makes of it.
use Rattle.std.specs.Prelude.{◌≡◌, ◌≤◌, ℕ, List, ◌++◌, Bool, true, false, not, ◌||◌, ◌==◌, Option, filter, length, map, unwrap_or, min, max, [], ◌∷◌}
use Rattle.pf_model.specs.declared.Tri.{Tri}
use Rattle.pf_model.specs.declared.Spoke.{Spoke}
use Rattle.pf_model.specs.declared.Cond.{Cond}
use Rattle.pf_model.specs.Mesh.{Undivided, side_of, tri_of}
use Rattle.pf_model.specs.Lengths.{is_long}
use Rattle.pf_model.specs.Stars.{is_one_fan, path_start, path_end, is_neighbour, spokes_of}
use Rattle.pf_model.specs.declared.Side.{Side}
use Rattle.pf_model.specs.declared.Cond.TheVariants.{Corner, OffBoundary, LinkNode, TooLong}
use Rattle.pf_model.specs.Clauses.{when, when_some}
use Rattle.pf_model.specs.Rows.{neighbours, least_that, is_corner, is_off_boundary, is_link_node, inverted, star_rows}
use Rattle.pf_rules.specs.declared.contract.StarShape.{StarShape}
use Rattle.pf_spokes.specs.Spokes.{has_right}

-- the rights of the spokes, and the lefts that are no rights
abbrev pub names_of : List Spoke → List ℕ
names_of ss = map (λ s. s.right) ss ++ map (λ s. s.left) (filter (λ s. not (has_right s.left ss)) ss)

-- x is a neighbour of v, and no apex of the edge u, v
abbrev pub is_link_at : Undivided → ℕ → ℕ → List Spoke → ℕ → Bool
is_link_at m u v vs x = is_link_node (side_of m.tris u v) (side_of m.tris v u) vs x

-- the rows of a contraction after those on the width and the fan of u, at the mesh's own sides
abbrev pub star_clauses : Undivided → ℕ → ℕ → List Spoke → List Spoke → List (Option Cond)
star_clauses m u v us vs = star_rows m u v (side_of m.tris u v) (side_of m.tris v u) us vs

-- the rows of a contraction that what the star says by itself, the link nodes and the triangles decide
abbrev pub shape_rows : Undivided → ℕ → ℕ → Option Side → Option Side → List Spoke → List Spoke → List (Option Cond)
shape_rows m u v l r us vs =
    when (is_corner m u us) Corner
    ∷ when (is_off_boundary v us) OffBoundary
    ∷ when_some (least_that (is_link_node l r vs) (neighbours us)) (λ x. LinkNode x)
    ∷ inverted m v us
    ∷ []

-- the last row of a contraction onto v, where this is the least neighbour to which a new edge would be too long
abbrev pub far_row : ℕ → Option ℕ → Option Cond
far_row v far = when_some far (λ x. TooLong (min v x) (max v x))

-- the triangle of a spoke of n
abbrev pub tri_at : ℕ → Spoke → Tri
tri_at n s = tri_of n s.right s.left s.owner

-- the spoke is without v
abbrev pub is_without : ℕ → Spoke → Bool
is_without v s = not (s.right == v || s.left == v)

-- the triangles of the star
abbrev pub star_tris : ℕ → List Spoke → List Tri
star_tris u us = map (tri_at u) us

-- those without v, with v in the place of u
abbrev pub moved_tris : ℕ → List Spoke → List Tri
moved_tris v us = map (tri_at v) (filter (is_without v) us)

-- no edge between two neighbours is too long
abbrev pub AreClose : Undivided → List Spoke → Type 0
AreClose m us = (v x : ℕ) → is_neighbour v us ≡ true → is_neighbour x us ≡ true → is_long m v x ≡ false

-- what the star of u says by itself: where its path begins and ends, whether it bends at u, and that its nodes are close, where
-- that is told
pub record IsShape (m : Undivided) (u : ℕ) (us : List Spoke) (shape : StarShape) : Type 0 where
  pub first : shape.first ≡ path_start us us
  pub last : shape.last ≡ unwrap_or (path_end us us) 0
  pub bent : shape.bent ≡ is_corner m u us
  pub close : shape.close ≡ true → AreClose m us

-- the least of these names that passes is the least neighbour that does
abbrev pub AreAround : List Spoke → List ℕ → Type 0
AreAround us names = (p : ℕ → Bool) → least_that p names ≡ least_that p (neighbours us)

-- these are the spokes of u, few enough, and one cycle or one path
pub record IsStar (m : Undivided) (u : ℕ) (us : List Spoke) : Type 0 where
  pub all : us ≡ spokes_of m u
  pub few : length (spokes_of m u) ≤ 60
  pub fan : is_one_fan (spokes_of m u) ≡ true
