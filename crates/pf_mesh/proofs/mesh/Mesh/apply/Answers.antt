use Rattle.std.proofs.Common.{◌∙◌, ◌+◌, ℕ, sym, ap, subst}
use Rattle.pf_model.specs.Mesh.{Undivided}
use Rattle.pf_model.specs.Conforming.{IsConforming}
use Rattle.pf_model.specs.Sums.{area2_of}
use Rattle.pf_model.proofs.ReplayKeeps.{applied_conforms, applied_area}
use Rattle.pf_rules.specs.Change.{PassesWithName}
use Rattle.pf_mesh.proofs.mesh.Mesh.apply.Goals as goal
use Rattle.pf_model.specs.Sums.{euler_of}
use Rattle.pf_cover_model.specs.Alike.{CoversAlike, KeepsFans}
use Rattle.pf_cover_model.proofs.Covers.{applied_cover}
use Rattle.pf_cover_model.proofs.Eulers.{applied_euler}
use Rattle.pf_cover_model.proofs.FanKeeps.{applied_fans}

abbrev can : (c : goal.In-Ok) → PassesWithName c.args.self.now.mesh (c.first_new.result + c.args.e.now.ticket) c.args.e.now.op
can c = record { chunk = c.args.e.now.chunk; ticket = c.args.e.now.ticket; fresh = c.requires.fresh; name = ap (λ (i : ℕ). i + c.args.e.now.ticket) (sym c.first_new.ensures.value); passes = sym c.plan.ensures.cond ∙ c.in_default-plan.is }

pub returns-in-Ok-clause-applied : goal.returns-in-Ok-clause-applied
returns-in-Ok-clause-applied c = c.in-Ok.ensures.ok (can c)

pub returns-in-Ok-clause-conforming : goal.returns-in-Ok-clause-conforming
returns-in-Ok-clause-conforming c =
    let P : Undivided → Type 0 = λ m. IsConforming m in
    subst P (sym (returns-in-Ok-clause-applied c)) (applied_conforms c.args.self.now.mesh c.args.e.now.chunk c.args.e.now.ticket c.args.e.now.op c.gone_node.ensures.conforming c.requires.fresh (can c).passes)

pub returns-in-Ok-clause-area : goal.returns-in-Ok-clause-area
returns-in-Ok-clause-area c = ap area2_of (returns-in-Ok-clause-applied c) ∙ applied_area c.args.self.now.mesh c.args.e.now.chunk c.args.e.now.ticket c.args.e.now.op c.gone_node.ensures.conforming c.requires.fresh (can c).passes

pub returns-in-Ok-clause-cover : goal.returns-in-Ok-clause-cover
returns-in-Ok-clause-cover c =
    let P : Undivided → Type 0 = λ m. CoversAlike c.args.self.now.mesh m in
    subst P (sym (returns-in-Ok-clause-applied c)) (applied_cover c.args.self.now.mesh c.args.e.now c.gone_node.ensures.conforming c.requires.fresh (can c).passes)

pub returns-in-Ok-clause-euler : goal.returns-in-Ok-clause-euler
returns-in-Ok-clause-euler c = ap euler_of (returns-in-Ok-clause-applied c) ∙ applied_euler c.args.self.now.mesh c.args.e.now c.gone_node.ensures.conforming c.requires.fresh (can c).passes

pub returns-in-Ok-clause-fans : goal.returns-in-Ok-clause-fans
returns-in-Ok-clause-fans c =
    let P : Undivided → Type 0 = λ m. KeepsFans c.args.self.now.mesh m in
    subst P (sym (returns-in-Ok-clause-applied c)) (applied_fans c.args.self.now.mesh c.args.e.now c.gone_node.ensures.conforming c.requires.fresh (can c).passes)
