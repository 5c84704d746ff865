use Rattle.std.proofs.Common.{Some, ℕ, List, sym, ap, ◌∙◌}
use Rattle.pf_core_model.specs.Core.{mesh_after}
use Rattle.pf_plain.specs.Plains.{has_node}
use Rattle.pf_plain.specs.Plains.{opening_of}
use Rattle.pf_plain.specs.Stars.{star_by}
use Rattle.pf_plain.proofs.Names.{star_now}
use Rattle.pf_plain.specs.PlainLaws.{lent_held, lent_not}
use Rattle.pf_plain.proofs.holding.PlainRings.ring.Goals as goal

pub returns-in-Some : goal.returns-in-Some
returns-in-Some c =
    let h = c.args.self.now in
    (λ i. Some (c.of.ensures i)) ∙ c.in-Some.ensures ∙ (λ i. star_by (c.deref.ensures.value i) c.args.n) ∙ star_now (mesh_after (opening_of h.mesh.mesh h.budget) h.journal.items) h.stars.items c.args.n h.stars_are ∙ sym (lent_held (mesh_after (opening_of h.mesh.mesh h.budget) h.journal.items) h.nodes.items c.args.n (ap (λ (l : List ℕ). has_node l c.args.n) (sym c.as_slice.ensures.value) ∙ sym c.is_held.ensures ∙ c.if-is_held.true))

pub returns-in-None : goal.returns-in-None
returns-in-None c =
    let h = c.args.self.now in
    c.in-None.ensures ∙ (λ i. star_by (c.deref.ensures.value i) c.args.n) ∙ star_now (mesh_after (opening_of h.mesh.mesh h.budget) h.journal.items) h.stars.items c.args.n h.stars_are ∙ sym (lent_held (mesh_after (opening_of h.mesh.mesh h.budget) h.journal.items) h.nodes.items c.args.n (ap (λ (l : List ℕ). has_node l c.args.n) (sym c.as_slice.ensures.value) ∙ sym c.is_held.ensures ∙ c.if-is_held.true))

pub returns-else-is_held : goal.returns-else-is_held
returns-else-is_held c =
    let h = c.args.self.now in
    sym (lent_not (mesh_after (opening_of h.mesh.mesh h.budget) h.journal.items) h.nodes.items c.args.n (ap (λ (l : List ℕ). has_node l c.args.n) (sym c.as_slice.ensures.value) ∙ sym c.is_held.ensures ∙ c.if-is_held.false))
