-- Copies that are those of a mesh, and what one copy gives of it.
use Rattle.std.specs.Prelude.{List, [], ◌∷◌, cond}
use Rattle.pf_model.specs.declared.Site.{Site}
use Rattle.pf_model.specs.declared.Tri.{Tri}
use Rattle.pf_model.specs.Mesh.{Undivided}
use Rattle.pf_model.specs.Conforming.{IsConforming}
use Rattle.pf_star_model.specs.Assembled.{is_kept, site_in}
use Rattle.pf_star.specs.declared.copies.ChunkCopy.{ChunkCopy}
use Rattle.pf_star.specs.declared.copies.Copies.{Copies}
use Rattle.pf_locks.specs.Closes.{AreCopiesOf, shown_copy}
use Rattle.pf_locks.specs.Ends.{tris_from}

-- there is a conforming mesh of which these are the copies
pub record HasMesh (copies : Copies) : Type 0 where
  pub mesh : Undivided
  pub conforming : IsConforming mesh
  pub divided : AreCopiesOf mesh copies

-- the node of a copy, where its chunk is the node's keeper
abbrev pub kept_sites : ChunkCopy → List Site
kept_sites x = cond (is_kept (shown_copy x)) (site_in (shown_copy x) ∷ []) []

-- the triangles of which that node is the least corner
abbrev pub kept_tris : ChunkCopy → List Tri
kept_tris x = cond (is_kept (shown_copy x)) (tris_from x.star.node x.star.spokes) []
