-- What is held of a mesh: stars, and the sides, names and points that a star shows.
-- A node that is held as absent, and one that isn't held, show no star.
use Rattle.std.specs.Prelude.{◌≡◌, ℕ, List, [], ◌∷◌, Bool, false, cond, ◌||◌, ◌==◌, Option, Some, None, Contains, flat_map}
use Rattle.pf_model.specs.declared.Tri.{Tri}
use Rattle.pf_model.specs.declared.Site.{Site}
use Rattle.pf_model.specs.declared.Band.{Band}
use Rattle.pf_model.specs.declared.Spoke.{Spoke}
use Rattle.pf_model.specs.declared.Side.{Side}
use Rattle.pf_model.specs.Mesh.{Undivided, tri_of}
use Rattle.pf_model.specs.Stars.{Star, star_of}

-- a held pair: a node and its star, or None where the node is held as absent
pub record Held : Type 0 where
  pub node : ℕ
  pub star : Option Star

-- the node is held
abbrev pub is_held : List Held → ℕ → Bool
is_held [] n = false
is_held (h ∷ hs) n = h.node == n || is_held hs n

-- the star that is held of the node, where there is one
abbrev pub star_held : List Held → ℕ → Option Star
star_held [] n = None
star_held (h ∷ hs) n = cond (h.node == n) h.star (star_held hs n)

-- each held pair is its node's star in the mesh, or its absence there
abbrev pub AgreesOn : List Held → Undivided → Type 0
AgreesOn hs m = (h : Held) → Contains hs h → h.star ≡ star_of m h.node

-- what is lent of the node is its star in the mesh, or None where it isn't live there
abbrev pub IsShown : (ℕ → Option Star) → Undivided → ℕ → Type 0
IsShown lent m n = lent n ≡ star_of m n

-- the spokes of a star
abbrev pub spokes_in : Option Star → List Spoke
spokes_in None = []
spokes_in (Some s) = s.spokes

-- the triangle of a spoke of n
abbrev pub tri_at : ℕ → Spoke → Tri
tri_at n s = tri_of n s.right s.left s.owner

-- the spoke has n
abbrev pub has_name : ℕ → Spoke → Bool
has_name n s = s.right == n || s.left == n

-- the left side of the directed edge from the spokes' node to n
abbrev pub side_to : ℕ → List Spoke → Option Side
side_to n [] = None
side_to n (s ∷ ss) = cond (s.right == n) (Some record { apex = s.left; owner = s.owner }) (side_to n ss)

-- the left side of the directed edge from n to the spokes' node
abbrev pub side_from : ℕ → List Spoke → Option Side
side_from n [] = None
side_from n (s ∷ ss) = cond (s.left == n) (Some record { apex = s.right; owner = s.owner }) (side_from n ss)

-- the two further nodes of a spoke
abbrev pub spoke_sites : Spoke → List Site
spoke_sites s = record { name = s.right; at = s.right_at } ∷ record { name = s.left; at = s.left_at } ∷ []

-- the nodes that a star shows: its own and its neighbours
abbrev pub sites_in : Option Star → List Site
sites_in None = []
sites_in (Some s) = record { name = s.node; at = s.at } ∷ flat_map spoke_sites s.spokes

-- what a star shows of points and lengths, as a mesh without triangles
abbrev pub sight_of : List Band → Option Star → Undivided
sight_of bands o = record { first_new = 0; sites = sites_in o; tris = []; bands = bands; chunks = 0 }
