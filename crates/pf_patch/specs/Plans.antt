-- What an operation takes out of the held stars and puts into them, as it is read from the stars of its ends.
use Rattle.std.specs.Prelude.{IfSome, ℕ, List, [], ◌∷◌, ◌++◌, Bool, false, cond, not, ◌==◌, Option, Some, None, filter, map, min, max, pos, unwrap_or}
use Rattle.std.specs.Option.{option_map}
use Rattle.pf_geom.specs.declared.Point.{Point}
use Rattle.pf_geom.specs.Plane.{IsInRange, middle_of}
use Rattle.pf_model.specs.declared.Side.{Side}
use Rattle.pf_model.specs.declared.Spoke.{Spoke}
use Rattle.pf_model.specs.declared.Op.{Op}
use Rattle.pf_model.specs.declared.Op.TheVariants.{Flip, Bisect, Contract}
use Rattle.pf_model.specs.Stars.{Star}
use Rattle.pf_star_model.specs.Lent.{Held, has_name}
use Rattle.pf_star_model.specs.Patched.{put_name}
use Rattle.pf_rings.specs.Points.{first_to, first_from, left_side, right_side}
use Rattle.pf_spokes.specs.Spokes.{HasSpots}
use Rattle.pf_patch.specs.declared.edge.Edge.{Edge}
use Rattle.pf_patch.specs.declared.tris.Corner.{Corner}
use Rattle.pf_patch.specs.declared.tris.NewTri.{NewTri}
use Rattle.pf_patch.specs.declared.tris.Gone.{Gone}
use Rattle.pf_patch.specs.declared.tris.Gone.TheVariants.{AtEdge, AtNode}
use Rattle.pf_patch.specs.Tris.{spokes_with, star_with}

-- the name of the new node in a patch
abbrev pub later : ℕ
later = 4294967295

abbrev pub origin : Point
origin = record { x = pos 0; y = pos 0 }

abbrev pub corner : ℕ → Point → Corner
corner n p = record { name = n; at = p }

abbrev pub tri : Corner → Corner → Corner → ℕ → NewTri
tri p q z owner = record { p = p; q = q; z = z; owner = owner }

-- the corners of a spoke
abbrev pub right_of : Spoke → Corner
right_of s = corner s.right s.right_at

abbrev pub left_of : Spoke → Corner
left_of s = corner s.left s.left_at

-- the two triangles that a flip puts in: `lo` is the star's node, and the spokes are those at its edge to `hi`
abbrev pub flip_triangles : Corner → Option Spoke → Option Spoke → List NewTri
flip_triangles lo None r = []
flip_triangles lo (Some l) None = []
flip_triangles lo (Some l) (Some r) = tri lo (right_of r) (left_of l) l.owner ∷ tri (right_of l) (left_of l) (right_of r) r.owner ∷ []

-- where the other end of the edge stands
abbrev pub end_at : Option Spoke → Option Spoke → Point
end_at (Some l) r = l.right_at
end_at None (Some r) = r.left_at
end_at None None = origin

-- the halves of the triangle p, q, apex
abbrev pub halves : Corner → Corner → Corner → Corner → ℕ → List NewTri
halves n p q apex owner = tri p n apex owner ∷ tri n q apex owner ∷ []

abbrev pub left_halves : Corner → Corner → Corner → Option Spoke → List NewTri
left_halves n lo hi None = []
left_halves n lo hi (Some l) = halves n lo hi (left_of l) l.owner

abbrev pub right_halves : Corner → Corner → Corner → Option Spoke → List NewTri
right_halves n lo hi None = []
right_halves n lo hi (Some r) = halves n hi lo (right_of r) r.owner

abbrev pub cut : Corner → Corner → Corner → Option Spoke → Option Spoke → List NewTri
cut n lo hi l r = left_halves n lo hi l ++ right_halves n lo hi r

-- the middle of the edge, and the origin where it isn't whole
abbrev pub middle_or : Point → Point → Point
middle_or p q = unwrap_or (middle_of p q) origin

-- where a neighbour stands
abbrev pub spot_in : ℕ → List Spoke → Point
spot_in v us = end_at (first_to v us) (first_from v us)

-- the triangles of the spokes without v, with v in the place of their node
abbrev pub moved_one : Corner → Spoke → NewTri
moved_one v s = tri v (right_of s) (left_of s) s.owner

abbrev pub moved : Corner → List Spoke → List NewTri
moved v us = map (moved_one v) (filter (λ s. not (has_name v.name s)) us)

-- what is taken out
abbrev pub gone_by : Op → Gone
gone_by (Flip a b) = AtEdge (min a b) (max a b)
gone_by (Bisect a b) = AtEdge (min a b) (max a b)
gone_by (Contract u v) = AtNode u

-- the triangles at the edge of a star's node to `hi`
abbrev pub edge_in : ℕ → Star → Edge
edge_in hi s = record { at = s.at; left = first_to hi s.spokes; right = first_from hi s.spokes }

-- the triangles at the edge of an operation, from the star of its lower end; a contraction goes over its fan
abbrev pub edge_by : (ℕ → Option Star) → Op → Option Edge
edge_by lent (Flip a b) = option_map (edge_in (max a b)) (lent (min a b))
edge_by lent (Bisect a b) = option_map (edge_in (max a b)) (lent (min a b))
edge_by lent (Contract u v) = None

-- what stands on each side of it
abbrev pub left_on : Option Edge → Option Side
left_on None = None
left_on (Some e) = option_map left_side e.left

abbrev pub right_on : Option Edge → Option Side
right_on None = None
right_on (Some e) = option_map right_side e.right

-- the triangles at the edge, cut at the middle
abbrev pub cut_on : ℕ → ℕ → Option Edge → List NewTri
cut_on lo hi None = []
cut_on lo hi (Some e) = cut (corner later (middle_or e.at (end_at e.left e.right))) (corner lo e.at) (corner hi (end_at e.left e.right)) e.left e.right

-- what a flip puts in
abbrev pub flip_triangles_on : ℕ → Option Edge → List NewTri
flip_triangles_on lo None = []
flip_triangles_on lo (Some e) = flip_triangles (corner lo e.at) e.left e.right

-- the same by the star of the edge's lower end
abbrev pub cut_of : ℕ → ℕ → Option Star → List NewTri
cut_of lo hi star = cut_on lo hi (option_map (edge_in hi) star)

abbrev pub flip_triangles_of : ℕ → ℕ → Option Star → List NewTri
flip_triangles_of lo hi star = flip_triangles_on lo (option_map (edge_in hi) star)

abbrev pub moved_of : ℕ → Option Star → List NewTri
moved_of v None = []
moved_of v (Some s) = moved (corner v (spot_in v s.spokes)) s.spokes

-- what is put in
abbrev pub tris_by : (ℕ → Option Star) → Op → List NewTri
tris_by lent (Flip a b) = flip_triangles_of (min a b) (max a b) (lent (min a b))
tris_by lent (Bisect a b) = cut_of (min a b) (max a b) (lent (min a b))
tris_by lent (Contract u v) = moved_of v (lent u)

-- the node that goes
abbrev pub dead_by : Op → Option ℕ
dead_by (Flip a b) = None
dead_by (Bisect a b) = None
dead_by (Contract u v) = Some u

-- the node that comes
abbrev pub born_on : Option Edge → Corner
born_on None = corner later origin
born_on (Some e) = corner later (middle_or e.at (end_at e.left e.right))

abbrev pub born_of : ℕ → Option Star → Corner
born_of hi star = born_on (option_map (edge_in hi) star)

abbrev pub born_by : (ℕ → Option Star) → Op → Option Corner
born_by lent (Flip a b) = None
born_by lent (Bisect a b) = Some (born_of (max a b) (lent (min a b)))
born_by lent (Contract u v) = None

-- the node is the one that goes
abbrev pub is_dead : ℕ → Option ℕ → Bool
is_dead n None = false
is_dead n (Some k) = n == k

-- the corner that comes, where it is the node
abbrev pub born_at : ℕ → Option Corner → Option Corner
born_at n None = None
born_at n (Some c) = cond (n == c.name) (Some c) None

-- the star of the corner that comes, or what is kept where none does
abbrev pub made_or : Gone → List NewTri → Option Corner → Option Star → Option Star
made_or gone added None kept = kept
made_or gone added (Some c) kept = Some record { node = c.name; at = c.at; spokes = spokes_with gone added c.name [] }

-- the star of n after
abbrev pub planned : (ℕ → Option Star) → Gone → List NewTri → Option ℕ → Option Corner → ℕ → Option Star
planned lent gone added dead born n = cond (is_dead n dead) None (made_or gone added (born_at n born) (option_map (star_with gone added) (lent n)))

-- the pair of n after
abbrev pub planned_pair : (ℕ → Option Star) → Gone → List NewTri → Option ℕ → Option Corner → ℕ → Held
planned_pair lent gone added dead born n = record { node = n; star = planned lent gone added dead born n }

-- the rising names with these more, from the last to the first
abbrev pub put_names : List ℕ → List ℕ → List ℕ
put_names [] ks = ks
put_names (n ∷ ns) ks = put_name n (put_names ns ks)

-- the points at an edge are in range
pub record AreInRange (e : Edge) : Type 0 where
  pub lower : IsInRange e.at
  pub on_left : IfSome e.left HasSpots
  pub on_right : IfSome e.right HasSpots
