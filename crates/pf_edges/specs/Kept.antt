-- A mesh that the edge table shows.
use Rattle.std.specs.Prelude.{ℕ, List}
use Rattle.pf_model.specs.declared.Tri.{Tri}
use Rattle.pf_model.specs.declared.Site.{Site}
use Rattle.pf_model.specs.declared.Band.{Band}
use Rattle.pf_model.specs.Mesh.{Undivided}
use Rattle.pf_model.specs.Conforming.{IsConforming}
use Rattle.pf_edges.specs.declared.table.Node.{Node}
use Rattle.pf_edges.specs.Table.{Sides, Shows, ArePlacesInRange}

-- the mesh with these parts
abbrev pub mesh_of : ℕ → List Site → List Tri → List Band → ℕ → Undivided
mesh_of first_new sites tris bands chunks = record { first_new = first_new; sites = sites; tris = tris; bands = bands; chunks = chunks }

-- the mesh is conforming, and the table shows it
pub record IsKept (sides : Sides) (nodes : List Node) (m : Undivided) : Type 0 where
  pub conforming : IsConforming m
  pub shows : Shows sides nodes m
  pub in_range : ArePlacesInRange nodes
