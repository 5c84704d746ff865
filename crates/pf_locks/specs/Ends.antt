-- A board at its end: the nodes and the triangles of the mesh after its history, name by name.
use Rattle.std.specs.Prelude.{ℕ, zero, suc, List, [], ◌∷◌, ◌++◌, Bool, ◌&&◌, cond, nat_lt, Option, Some, None}
use Rattle.pf_model.specs.declared.Site.{Site}
use Rattle.pf_model.specs.declared.Spoke.{Spoke}
use Rattle.pf_model.specs.declared.Tri.{Tri}
use Rattle.pf_model.specs.Mesh.{Undivided}
use Rattle.pf_model.specs.Stars.{Star}
use Rattle.pf_core_model.specs.declared.sharer.Sharer.{Sharer}
use Rattle.pf_core_model.specs.Sharers.{kept_in}
use Rattle.pf_locks.specs.Closes.{list_at}
use Rattle.pf_locks.specs.declared.ending.Ended.{Ended}

-- the node of a star
abbrev pub site_of : Star → Site
site_of s = record { name = s.node; at = s.at }

-- the node of a spoke is the least corner of its triangle
abbrev pub is_least : ℕ → Spoke → Bool
is_least n s = nat_lt n s.right && nat_lt n s.left

-- that triangle
abbrev pub tri_from : ℕ → Spoke → Tri
tri_from n s = record { a = n; b = s.right; c = s.left; owner = s.owner }

-- the triangles of spokes of n of which n is the least corner
abbrev pub tris_from : ℕ → List Spoke → List Tri
tris_from n [] = []
tris_from n (s ∷ ss) = cond (is_least n s) (tri_from n s ∷ tris_from n ss) (tris_from n ss)

-- what a node with this star, or none, gives of the mesh: itself, and the triangles of which it is the least corner
abbrev pub sites_at : Option Star → List Site
sites_at None = []
sites_at (Some s) = site_of s ∷ []

abbrev pub tris_at : Option Star → List Tri
tris_at None = []
tris_at (Some s) = tris_from s.node s.spokes

-- what the names below n give, name by name
abbrev pub under : {X : Type 0} → (ℕ → List X) → ℕ → List X
under g zero = []
under g (suc n) = under g n ++ g n

-- the keeper's copy at a place
abbrev pub kept_at : List (List Sharer) → ℕ → Option Star
kept_at ls k = kept_in (list_at ls k)

-- the mesh whose parts a board came to
abbrev pub mesh_in : Ended → Undivided
mesh_in e = record { first_new = e.first_new; sites = e.sites.items; tris = e.tris.items; bands = e.bands.items; chunks = e.chunks }
