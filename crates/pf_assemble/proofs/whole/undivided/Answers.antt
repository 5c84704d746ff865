use Rattle.std.proofs.Common.{◌∙◌, sym, subst}
use Rattle.pf_model.specs.Conforming.{IsConforming}
use Rattle.pf_assemble.proofs.Gathered.{whole-is}
use Rattle.pf_assemble.proofs.whole.undivided.Goals as goal

pub of_parts-requires : goal.of_parts-requires
of_parts-requires c = subst IsConforming (whole-is c.requires.mesh c.requires.conforming c.args.copies c.requires.divided _ _ c.in_ok-sites.ensures.sites c.in_ok-sites.ensures.tris) c.requires.conforming

pub returns : goal.returns
returns c = λ m ok d. c.in_ok-mesh.ensures ∙ sym (whole-is m ok c.args.copies d _ _ c.in_ok-sites.ensures.sites c.in_ok-sites.ensures.tris)
