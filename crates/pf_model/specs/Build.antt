-- The mesh that a list of points and a list of triangles make, or the first fault that they have.
-- A triangle of the list is a list of its three corners, each the place of a point.
use Rattle.std.specs.Prelude.{ℕ, suc, List, [], ◌∷◌, ◌++◌, cond, not, nat_lt, Option, Some, None, Result, Ok, Err, is_some, pos, negsuc, ℤ, int_lt, filter, map, find, length, slice_index, slice_index_or}
use Rattle.std.specs.Ordering.{int_eq}
use Rattle.std.specs.List.{list_any}
use Rattle.pf_geom.specs.declared.Point.{Point}
use Rattle.pf_geom.specs.Plane.{orient_of}
use Rattle.pf_model.specs.declared.Tri.{Tri}
use Rattle.pf_model.specs.declared.Site.{Site}
use Rattle.pf_model.specs.declared.Band.{Band}
use Rattle.pf_model.specs.declared.BuildErr.{BuildErr}
use Rattle.pf_model.specs.declared.BuildErr.TheVariants.{BadNode, Flat, EdgeTwice}
use Rattle.pf_model.specs.Rising.{sorted_by}
use Rattle.pf_model.specs.Clauses.{when, when_some, first_of}
use Rattle.pf_model.specs.Mesh.{Undivided, tri_of, tri_lt, has_corner, side_of, directed_edges_in}

-- the point at a place of the list, and the origin past its end
abbrev pub point_at : List Point → ℕ → Point
point_at points n = slice_index_or points n record { x = pos 0; y = pos 0 }

-- the orientation of a triangle's three corners as listed
abbrev pub listed_turn : List Point → List ℕ → ℤ
listed_turn points t = orient_of (point_at points (slice_index t 0)) (point_at points (slice_index t 1)) (point_at points (slice_index t 2))

-- the triangle, least corner first, turned round where it is listed clockwise; its owner is chunk 0
abbrev pub turned_left : List Point → List ℕ → Tri
turned_left points t =
    cond (int_lt (pos 0) (listed_turn points t))
    (tri_of (slice_index t 0) (slice_index t 1) (slice_index t 2) 0)
    (tri_of (slice_index t 0) (slice_index t 2) (slice_index t 1) 0)

-- the faults of the triangle at place k, where these stand before it: the first corner that is no place of a point, then
-- no area, then the first directed edge of the turned triangle that one before it has
abbrev pub build_clauses : List Point → List Tri → ℕ → List ℕ → List (Option BuildErr)
build_clauses points earlier k t =
    when_some (find (λ n. not (nat_lt n (length points))) t) (λ n. BadNode k n)
    ∷ when (int_eq (listed_turn points t) (pos 0)) (Flat k)
    ∷ when_some (find (λ e. is_some (side_of earlier e.from e.to)) (directed_edges_in (turned_left points t))) (λ e. EdgeTwice e.from e.to)
    ∷ []

-- the first fault of the triangles from place k on, where these stand before them
abbrev pub first_fault : List Point → List Tri → ℕ → List (List ℕ) → Option BuildErr
first_fault points earlier k [] = None
first_fault points earlier k (t ∷ ts) = first_of (build_clauses points earlier k t ++ first_fault points (turned_left points t ∷ earlier) (suc k) ts ∷ [])

-- the points as sites, named from k on
abbrev pub sites_from : ℕ → List Point → List Site
sites_from k [] = []
sites_from k (p ∷ ps) = record { name = k; at = p } ∷ sites_from (suc k) ps

-- the band that a mesh has where no table is given: every edge's length is allowed
abbrev pub default_band : Band
default_band = record { xlo = negsuc 268435455; ylo = negsuc 268435455; xhi = pos 268435456; yhi = pos 268435456; min2 = pos 0; max2 = pos 1152921504606846976 }

-- the mesh of one chunk with these points and triangles, without the points that are in no triangle
abbrev pub mesh_with : List Point → List Tri → Undivided
mesh_with points tris =
    record {
      first_new = length points;
      sites = filter (λ s. list_any (has_corner s.name) tris) (sites_from 0 points);
      tris = sorted_by tri_lt tris;
      bands = default_band ∷ [];
      chunks = 1;
    }

-- the mesh, or the first fault
abbrev pub built : List Point → List (List ℕ) → Result Undivided BuildErr
built points tris = elim (first_fault points [] 0 tris) [ Some fault ↦ Err fault | None ↦ Ok (mesh_with points (map (turned_left points) tris)) ]
