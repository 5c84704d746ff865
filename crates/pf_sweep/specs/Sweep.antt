-- Stars that are cut from a list of the triangles as their corners have them.
use Rattle.std.specs.Prelude.{◌≡◌, ℕ, ◌+◌, ◌<◌, ◌≤◌, ◌⊎◌, List, [], ◌∷◌, cond, ◌==◌, Option, Some, None, map, flat_map, length, slice_index_or}
use Rattle.pf_geom.specs.declared.Point.{Point}
use Rattle.pf_model.specs.declared.Tri.{Tri}
use Rattle.pf_model.specs.declared.Site.{Site}
use Rattle.pf_model.specs.declared.Spoke.{Spoke}
use Rattle.pf_model.specs.Build.{point_at}
use Rattle.pf_model.specs.Stars.{Star}
use Rattle.pf_sweep.specs.declared.corners.Corner.{Corner}

-- the triangle as each of its corners has it
abbrev pub turns_of : Tri → List Corner
turns_of t =
    record { node = t.a; right = t.b; left = t.c; owner = t.owner }
    ∷ record { node = t.b; right = t.c; left = t.a; owner = t.owner }
    ∷ record { node = t.c; right = t.a; left = t.b; owner = t.owner }
    ∷ []

-- the triangles as their corners have them
abbrev pub corners_of : List Tri → List Corner
corners_of ts = flat_map turns_of ts

-- the triangle as its corner n has it
abbrev pub corner_at : ℕ → Tri → Option Corner
corner_at n t =
    cond (t.a == n) (Some record { node = t.a; right = t.b; left = t.c; owner = t.owner })
    (cond (t.b == n) (Some record { node = t.b; right = t.c; left = t.a; owner = t.owner })
    (cond (t.c == n) (Some record { node = t.c; right = t.a; left = t.b; owner = t.owner }) None))

-- the first doesn't stand after the second, by node and then by right
abbrev pub IsNotAfter : Corner → Corner → Type 0
IsNotAfter c d = (c.node < d.node) ⊎ ((c.node ≡ d.node) × (c.right ≤ d.right))

-- none stands after the next
abbrev pub AreInOrder : List Corner → Type 0
AreInOrder cs = (k : ℕ) (d : Corner) → k + 1 < length cs → IsNotAfter (slice_index_or cs k d) (slice_index_or cs (k + 1) d)

-- so of spokes, by right
abbrev pub AreByRight : List Spoke → Type 0
AreByRight ss = (k : ℕ) (d : Spoke) → k + 1 < length ss → (slice_index_or ss k d).right ≤ (slice_index_or ss (k + 1) d).right

-- the spoke, with its points
abbrev pub spoke_by : List Point → Corner → Spoke
spoke_by points c = record { right = c.right; right_at = point_at points c.right; left = c.left; left_at = point_at points c.left; owner = c.owner }

-- those at the front that have the node n
abbrev pub front_at : ℕ → List Corner → List Corner
front_at n [] = []
front_at n (c ∷ cs) = cond (c.node == n) (c ∷ front_at n cs) []

-- those that follow them
abbrev pub rest_from : ℕ → List Corner → List Corner
rest_from n [] = []
rest_from n (c ∷ cs) = cond (c.node == n) (rest_from n cs) (c ∷ cs)

-- the star of a site
abbrev pub star_by : List Point → Site → List Corner → Star
star_by points s cs = record { node = s.name; at = s.at; spokes = map (spoke_by points) cs }

-- the stars of the sites, each with those that come next at its node
abbrev pub grouped : List Point → List Site → List Corner → List Star
grouped points [] cs = []
grouped points (s ∷ ss) cs = star_by points s (front_at s.name cs) ∷ grouped points ss (rest_from s.name cs)
