use Rattle.std.proofs.Common.{◌≡◌, ◌+◌, ◌∙◌, ℕ, None, refl, sym, ap, subst}
use Rattle.pf_model.specs.Mesh.{Undivided}
use Rattle.pf_model.specs.Conforming.{IsConforming}
use Rattle.pf_model.specs.Conditions.{first_failing}
use Rattle.pf_model.specs.Applied.{IsFresh, applied, op_applied}
use Rattle.pf_model.specs.Sums.{area2_of}
use Rattle.pf_model.proofs.ReplayKeeps.{applied_conforms, applied_area}
use Rattle.pf_edges.specs.Kept.{mesh_of}
use Rattle.pf_rules.specs.Change.{PassesWithName, IsChange}
use Rattle.pf_apply.specs.Operations.{AreParts}
use Rattle.pf_mesh.proofs.MeshLemmas.{same-mesh}
use Rattle.pf_apply.proofs.OperationLemmas.{parts-after, kept-after}
use Rattle.pf_mesh.proofs.mesh.Mesh.apply_spare.Goals as goal
use Rattle.pf_model.specs.Sums.{euler_of}
use Rattle.pf_cover_model.specs.Alike.{CoversAlike, KeepsFans}
use Rattle.pf_cover_model.proofs.Covers.{applied_cover}
use Rattle.pf_cover_model.proofs.Eulers.{applied_euler}
use Rattle.pf_cover_model.proofs.FanKeeps.{applied_fans}

-- the mesh before
abbrev before : (c : goal.After-perform_within) → Undivided
before c = mesh_of c.self.inside.first_new c.self.inside.sites.items c.self.inside.tris.items c.self.inside.bands.items c.self.inside.chunks

-- the entry can be applied to it
abbrev can : (c : goal.After-perform_within) → PassesWithName (before c) (c.first_new.result + c.args.e.now.ticket) c.args.e.now.op
can c =
    let e = c.args.e.now in
    let F : Undivided → Type 0 = λ x. IsFresh x e.ticket in
    let P : Undivided → Type 0 = λ x. first_failing x e.chunk e.op ≡ None in
    let same = sym (same-mesh c.self.view_is) in
    record {
      chunk = e.chunk;
      ticket = e.ticket;
      fresh = subst F same c.requires.fresh;
      name = ap (λ (i : ℕ). i + e.ticket) (sym (c.first_new.ensures.value ∙ ap (λ (x : Undivided). x.first_new) same));
      passes = subst P same c.requires.passes;
    }

-- the parts are those of the mesh after it
parts : (c : goal.After-perform_within) → AreParts c.perform_within.new.table.sides c.perform_within.new.table.nodes.items c.perform_within.new.sites.items c.perform_within.new.tris.items (op_applied (before c) c.args.e.now.ticket c.args.e.now.op)
parts c =
    let W : Undivided → Type 0 = λ x. IsChange x (c.first_new.result + c.args.e.now.ticket) c.args.e.now.op c.plan.new.scratch.change.removed.items c.plan.new.scratch.change.new.items in
    c.perform_within.ensures.applied (before c) record { kept = c.self.invariant; sites_are = refl; tris_are = refl } (can c) (subst W (sym (same-mesh c.self.view_is)) (c.plan.ensures.change (c.plan.ensures.cond ∙ c.requires.passes)))

pub invariant_of-self : goal.invariant_of-self
invariant_of-self c =
    let new = c.perform_within.new in
    kept-after new.table.sides new.table.nodes.items new.sites.items new.tris.items (before c) c.args.e.now.ticket c.args.e.now.op (parts c)

pub returns-clause-applied : goal.returns-clause-applied
returns-clause-applied c =
    let new = c.perform_within.new in
    parts-after new.table.sides new.table.nodes.items new.sites.items new.tris.items (before c) c.args.e.now.ticket c.args.e.now.op (parts c)
    ∙ ap (λ (x : Undivided). applied x c.args.e.now) (same-mesh c.self.view_is)

pub returns-clause-conforming : goal.returns-clause-conforming
returns-clause-conforming c =
    let e = c.args.e.now in
    let P : Undivided → Type 0 = λ m. IsConforming m in
    subst P (sym (returns-clause-applied c)) (applied_conforms c.args.self.now.mesh e.chunk e.ticket e.op c.first_new.ensures.conforming c.requires.fresh c.requires.passes)

pub returns-clause-area : goal.returns-clause-area
returns-clause-area c =
    let e = c.args.e.now in
    ap area2_of (returns-clause-applied c) ∙ applied_area c.args.self.now.mesh e.chunk e.ticket e.op c.first_new.ensures.conforming c.requires.fresh c.requires.passes

pub returns-clause-cover : goal.returns-clause-cover
returns-clause-cover c =
    let P : Undivided → Type 0 = λ m. CoversAlike c.args.self.now.mesh m in
    subst P (sym (returns-clause-applied c)) (applied_cover c.args.self.now.mesh c.args.e.now c.first_new.ensures.conforming c.requires.fresh c.requires.passes)

pub returns-clause-euler : goal.returns-clause-euler
returns-clause-euler c = ap euler_of (returns-clause-applied c) ∙ applied_euler c.args.self.now.mesh c.args.e.now c.first_new.ensures.conforming c.requires.fresh c.requires.passes

pub returns-clause-fans : goal.returns-clause-fans
returns-clause-fans c =
    let P : Undivided → Type 0 = λ m. KeepsFans c.args.self.now.mesh m in
    subst P (sym (returns-clause-applied c)) (applied_fans c.args.self.now.mesh c.args.e.now c.first_new.ensures.conforming c.requires.fresh c.requires.passes)
