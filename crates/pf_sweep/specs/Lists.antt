-- The lists of a mesh.
use Rattle.std.specs.Prelude.{◌≡◌, List, []}
use Rattle.pf_model.specs.declared.Tri.{Tri}
use Rattle.pf_model.specs.declared.Site.{Site}
use Rattle.pf_model.specs.Mesh.{Undivided}
use Rattle.pf_model.specs.Conforming.{IsConforming}

-- they are the nodes and the triangles of a conforming mesh
pub record AreLists (sites : List Site) (tris : List Tri) : Type 0 where
  pub mesh : Undivided
  pub conforming : IsConforming mesh
  pub sites_are : mesh.sites ≡ sites
  pub tris_are : mesh.tris ≡ tris

-- a mesh with these lists: its stars are those of each other one
abbrev pub mesh_by : List Site → List Tri → Undivided
mesh_by sites tris = record { first_new = 0; sites = sites; tris = tris; bands = []; chunks = 0 }
