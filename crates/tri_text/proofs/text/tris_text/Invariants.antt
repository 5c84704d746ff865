use Rattle.std.proofs.Common.{map}
use Rattle.pf_model.specs.Texts.{ele_text, renumbered}
use Rattle.tri_text.proofs.WriteRows.{TrianglesLeft}
use Rattle.tri_text.proofs.text.tris_text.Given as goal

abbrev pub invariant-loop-place : goal.invariant-loop-place
invariant-loop-place l = TrianglesLeft l.out.items l.base l.place l.sites l.tris (ele_text l.base (map (renumbered l.sites) l.tris))
