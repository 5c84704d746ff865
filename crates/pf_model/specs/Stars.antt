-- The star of a node, its sharers and keeper, and whether its spokes make one fan.
-- One fan is tested by a run that takes each spoke out as it passes.
use Rattle.std.specs.Prelude.{ℕ, zero, suc, List, [], ◌∷◌, Bool, cond, not, ◌&&◌, ◌||◌, ◌==◌, nat_lt, Option, Some, None, length, filter, filter_map, is_some}
use Rattle.std.specs.List.{list_any}
use Rattle.pf_geom.specs.declared.Point.{Point}
use Rattle.pf_model.specs.declared.Tri.{Tri}
use Rattle.pf_model.specs.declared.Spoke.{Spoke}
use Rattle.pf_model.specs.Rising.{sorted_by}
use Rattle.pf_model.specs.Mesh.{Undivided, side_of, point_of, place_of}

-- a node's triangles as a star
pub record Star : Type 0 where
  pub node : ℕ
  pub at : Point
  pub spokes : List Spoke

-- the triangle as a spoke of its corner n
abbrev pub spoke_of : Undivided → ℕ → Tri → Option Spoke
spoke_of m n t =
    cond (t.a == n) (Some record { right = t.b; right_at = place_of m t.b; left = t.c; left_at = place_of m t.c; owner = t.owner })
    (cond (t.b == n) (Some record { right = t.c; right_at = place_of m t.c; left = t.a; left_at = place_of m t.a; owner = t.owner })
    (cond (t.c == n) (Some record { right = t.a; right_at = place_of m t.a; left = t.b; left_at = place_of m t.b; owner = t.owner }) None))

-- the order of spokes: by right
abbrev pub spoke_lt : Spoke → Spoke → Bool
spoke_lt r s = nat_lt r.right s.right

-- the spokes of n, by rising right
abbrev pub spokes_of : Undivided → ℕ → List Spoke
spokes_of m n = sorted_by spoke_lt (filter_map (spoke_of m n) m.tris)

-- the star of n, where n is live
abbrev pub star_of : Undivided → ℕ → Option Star
star_of m n = cond (is_some (point_of m.sites n)) (Some record { node = n; at = place_of m n; spokes = spokes_of m n }) None

-- the chunk owns one of the spokes
abbrev pub is_sharer : ℕ → List Spoke → Bool
is_sharer c ss = list_any (λ s. s.owner == c) ss

-- the least owner of a spoke
abbrev pub keeper_in : List Spoke → Option ℕ
keeper_in [] = None
keeper_in (s ∷ ss) = elim (keeper_in ss) [ None ↦ Some s.owner | Some k ↦ Some (cond (nat_lt s.owner k) s.owner k) ]

-- the keeper of n
abbrev pub keeper_of : Undivided → ℕ → Option ℕ
keeper_of m n = keeper_in (spokes_of m n)

-- n is a neighbour: the right or the left of a spoke
abbrev pub is_neighbour : ℕ → List Spoke → Bool
is_neighbour n ss = list_any (λ s. s.right == n || s.left == n) ss

-- the directed edge p to q is a boundary edge
abbrev pub is_boundary_edge : List Tri → ℕ → ℕ → Bool
is_boundary_edge ts p q = is_some (side_of ts p q) && not (is_some (side_of ts q p))

-- the right of the first spoke whose right is no left: where a path of spokes begins
abbrev pub path_start : List Spoke → List Spoke → Option ℕ
path_start [] all = None
path_start (s ∷ ss) all = cond (list_any (λ r. r.left == s.right) all) (path_start ss all) (Some s.right)

-- the left of the first spoke whose left is no right: where a path of spokes ends
abbrev pub path_end : List Spoke → List Spoke → Option ℕ
path_end [] all = None
path_end (s ∷ ss) all = cond (list_any (λ r. r.right == s.left) all) (path_end ss all) (Some s.left)

-- the node of these spokes is on the boundary
abbrev pub is_on_boundary : List Spoke → Bool
is_on_boundary ss = is_some (path_start ss ss)

-- n is on the boundary
abbrev pub is_boundary : Undivided → ℕ → Bool
is_boundary m n = is_on_boundary (spokes_of m n)

-- the left of the spoke with this right
abbrev pub left_after : List Spoke → ℕ → Option ℕ
left_after [] right = None
left_after (s ∷ ss) right = cond (s.right == right) (Some s.left) (left_after ss right)

-- the spokes but those with this right
abbrev pub without_right : ℕ → List Spoke → List Spoke
without_right right ss = filter (λ s. not (s.right == right)) ss

-- what a run of at most so many spokes leaves: from a spoke with this right it goes on to one whose right is its left
abbrev pub run_leaves : ℕ → List Spoke → ℕ → List Spoke
run_leaves zero ss right = ss
run_leaves (suc most) ss right = elim (left_after ss right) [ None ↦ ss | Some next ↦ run_leaves most (without_right right ss) next ]

-- where a run round these spokes begins: where the path does, else at the first spoke
abbrev pub run_start : List Spoke → ℕ
run_start [] = 0
run_start (s ∷ ss) = elim (path_start (s ∷ ss) (s ∷ ss)) [ None ↦ s.right | Some n ↦ n ]

-- the spokes are one cycle or one path: a run leaves none
abbrev pub is_one_fan : List Spoke → Bool
is_one_fan ss = length (run_leaves (length ss) ss (run_start ss)) == 0
