use Rattle.std.proofs.Common.{refl, sym, subst}
use Rattle.pf_model.specs.Mesh.{Undivided}
use Rattle.pf_model.specs.Applied.{op_applied}
use Rattle.pf_edges.specs.Kept.{mesh_of}
use Rattle.pf_rules.specs.Change.{PassesWithName, IsChange}
use Rattle.pf_apply.specs.Operations.{AreParts}
use Rattle.pf_mesh.proofs.MeshLemmas.{same-mesh}
use Rattle.pf_apply.proofs.OperationLemmas.{parts-roomier, kept-after}
use Rattle.pf_mesh.proofs.mesh.Mesh.perform.Goals as goal

-- the mesh before
abbrev before : (c : goal.After-perform_within) → Undivided
before c = mesh_of c.self.inside.first_new c.self.inside.sites.items c.self.inside.tris.items c.self.inside.bands.items c.self.inside.chunks

-- the parts are those of the mesh after the operation
parts : (c : goal.After-perform_within) → (can : PassesWithName (before c) c.args.n c.args.op) → AreParts c.perform_within.new.table.sides c.perform_within.new.table.nodes.items c.perform_within.new.sites.items c.perform_within.new.tris.items (op_applied (before c) can.ticket c.args.op)
parts c can =
    let i = c.self.inside in
    let r = c.reserve in
    let m = before c in
    let W : Undivided → Type 0 = λ x. IsChange x c.args.n c.args.op c.args.change.now.removed.items c.args.change.now.new.items in
    let roomier = parts-roomier i.table.sides r.new.table.sides i.table.nodes.items r.new.table.nodes.items i.sites.items r.new.sites.items i.tris.items r.new.tris.items m r.ensures.sides r.ensures.nodes r.ensures.sites r.ensures.tris record { kept = c.self.invariant; sites_are = refl; tris_are = refl } in
    c.perform_within.ensures.applied m roomier can (subst W (sym (same-mesh c.self.view_is)) c.requires.change)

pub invariant_of-self-2 : goal.invariant_of-self-2
invariant_of-self-2 c =
    let V : Undivided → Type 0 = λ x. PassesWithName x c.args.n c.args.op in
    let can = subst V (sym (same-mesh c.self.view_is)) c.requires.can in
    let new = c.perform_within.new in
    kept-after new.table.sides new.table.nodes.items new.sites.items new.tris.items (before c) can.ticket c.args.op (parts c can)
