-- The steps of building a mesh.
use Rattle.std.specs.Prelude.{◌≡◌, ◌<◌, ◌<ℤ◌, pos, Contains, ℕ, suc, List, [], ◌∷◌, length, map, cond, nat_lt, Option, is_some, find}
use Rattle.pf_geom.specs.declared.Point.{Point}
use Rattle.pf_model.specs.declared.Tri.{Tri}
use Rattle.pf_model.specs.declared.BuildErr.{BuildErr}
use Rattle.pf_model.specs.declared.BuildErr.TheVariants.{EdgeTwice}
use Rattle.pf_model.specs.Clauses.{when_some}
use Rattle.pf_model.specs.Mesh.{Undivided, side_of, turn_at, directed_edges_in}
use Rattle.pf_model.specs.declared.Site.{Site}
use Rattle.pf_model.specs.Build.{turned_left, sites_from}
use Rattle.pf_model.specs.Exchange.{AreSound}
use Rattle.pf_edges.specs.declared.table.Node.{Node}
use Rattle.pf_edges.specs.Table.{Sides, ShowsTriangles}

-- the fault of a triangle with a directed edge that an earlier one has
abbrev pub twice_of : List Tri → Tri → Option BuildErr
twice_of earlier t = when_some (find (λ e. is_some (side_of earlier e.from e.to)) (directed_edges_in t)) (λ e. EdgeTwice e.from e.to)

-- the triangles of the list, the last first, before these
abbrev pub earlier_from : List Point → List Tri → List (List ℕ) → List Tri
earlier_from points earlier [] = earlier
earlier_from points earlier (t ∷ ts) = earlier_from points (turned_left points t ∷ earlier) ts

-- the nodes with triangles, as sites, named from k on
abbrev pub live_sites : ℕ → List Node → List Site
live_sites k [] = []
live_sites k (n ∷ ns) = cond (nat_lt 0 n.triangles) (record { name = k; at = n.at } ∷ live_sites (suc k) ns) (live_sites (suc k) ns)

-- the triangles of the list were all entered
pub record AreEntered (sides : Sides) (nodes : List Node) (points : List Point) (list : List Tri) (ts : List (List ℕ)) : Type 0 where
  pub shows : ShowsTriangles sides nodes (earlier_from points [] ts)
  pub listed : list ≡ map (turned_left points) ts

-- the points as a mesh of no triangles
abbrev pub points_mesh : List Point → Undivided
points_mesh points = record { first_new = 0; sites = sites_from 0 points; tris = []; bands = []; chunks = 0 }

-- triangles that were accepted
pub record AreAccepted (points : List Point) (ts : List Tri) : Type 0 where
  pub corners : (t : Tri) → Contains ts t → (t.a < length points) × (t.b < length points) × (t.c < length points)
  pub positive : (t : Tri) → Contains ts t → pos 0 <ℤ turn_at (points_mesh points) t.a t.b t.c
  pub owned : (t : Tri) → Contains ts t → t.owner ≡ 0
  pub sound : AreSound ts
