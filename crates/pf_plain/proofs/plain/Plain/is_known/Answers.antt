use Rattle.std.proofs.Common.{◌≤◌, ◌-◌, ◌||◌, Bool, sym, ap, ◌∙◌, arith}
use Rattle.pf_core_model.specs.Cavity.{is_made}
use Rattle.pf_plain.specs.Plains.{opening_of, makes_at}
use Rattle.pf_plain.proofs.Names.{made_by_place, not_below}
use Rattle.pf_plain.proofs.plain.Plain.is_known.Goals as goal

pub returns-else-n-first_new : goal.returns-else-n-first_new
returns-else-n-first_new c =
    let h = c.args.self.now in
    let f = c.first_new-first_new.ensures.value in
    let past = c.if-n-first_new.false in
    let low : h.mesh.mesh.first_new ≤ c.args.n = omega (arith, f, past) in
    c.makes_at.ensures ∙ (λ i. makes_at (c.deref.ensures.value i) (c.args.n - f i))
    ∙ made_by_place (opening_of h.mesh.mesh h.budget) h.journal.items h.nodes.items h.allowance c.args.n h.plain low
    ∙ sym (ap (λ (b : Bool). b || is_made h.mesh.mesh.first_new h.journal.items c.args.n) (not_below c.args.n h.mesh.mesh.first_new low))
