use Rattle.std.proofs.Common.{ap, ◌∙◌}
use Rattle.std.specs.Prelude.{is_some}
use Rattle.pf_core_model.specs.Core.{mesh_after}
use Rattle.pf_plain.specs.Stars.{star_by}
use Rattle.pf_plain.specs.Plains.{opening_of}
use Rattle.pf_plain.proofs.Names.{star_now}
use Rattle.pf_plain.proofs.plain.Plain.is_live.Goals as goal

pub returns : goal.returns
returns c =
    let h = c.args.self.now in
    c.has_star.ensures ∙ ap is_some ((λ i. star_by (c.deref.ensures.value i) c.args.n) ∙ star_now (mesh_after (opening_of h.mesh.mesh h.budget) h.journal.items) h.stars.items c.args.n h.stars_are)
