-- The mesh of its copies: each node is taken from its keeper's copy, and each triangle from that of its least corner.
use Rattle.std.specs.Prelude.{◌≡◌, ℕ, List, Bool, false, ◌&&◌, ◌==◌, nat_lt, Some, None, filter, map, flat_map}
use Rattle.pf_model.specs.declared.Tri.{Tri}
use Rattle.pf_model.specs.declared.Site.{Site}
use Rattle.pf_model.specs.declared.Band.{Band}
use Rattle.pf_model.specs.Rising.{sorted_by}
use Rattle.pf_model.specs.Mesh.{Undivided, tri_lt}
use Rattle.pf_model.specs.Conforming.{IsConforming}
use Rattle.pf_model.specs.Stars.{keeper_in}
use Rattle.pf_star_model.specs.Lent.{tri_at}
use Rattle.pf_star_model.specs.Copies.{Copy, copies_of}

-- the copy's chunk is its node's keeper
abbrev pub is_kept : Copy → Bool
is_kept x = elim (keeper_in x.star.spokes) [ None ↦ false | Some k ↦ k == x.chunk ]

-- the copy's node, as a site
abbrev pub site_in : Copy → Site
site_in x = record { name = x.star.node; at = x.star.at }

-- the order of sites: by name
abbrev pub site_lt : Site → Site → Bool
site_lt r s = nat_lt r.name s.name

-- the triangles of a copy of which its node is the least corner
abbrev pub least_tris : Copy → List Tri
least_tris x = map (tri_at x.star.node) (filter (λ s. nat_lt x.star.node s.right && nat_lt x.star.node s.left) x.star.spokes)

-- the mesh of these copies
abbrev pub assembled : ℕ → List Band → ℕ → List Copy → Undivided
assembled first_new bands chunks copies =
    record {
      first_new = first_new;
      sites = sorted_by site_lt (map site_in (filter is_kept copies));
      tris = sorted_by tri_lt (flat_map least_tris (filter is_kept copies));
      bands = bands;
      chunks = chunks;
    }

-- the copies of a mesh give it back
abbrev pub CopiesGiveMesh : Type 0
CopiesGiveMesh = (m : Undivided) → IsConforming m → assembled m.first_new m.bands m.chunks (copies_of m) ≡ m
