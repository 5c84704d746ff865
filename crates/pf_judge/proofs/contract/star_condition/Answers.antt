use Rattle.std.proofs.Common.{◌≡◌, true, false, sym, ◌∙◌, ap, subst}
use Rattle.pf_model.specs.Stars.{spokes_of}
use Rattle.pf_model.specs.Rows.{least_that}
use Rattle.pf_rules.specs.Contract.{AreAround, is_link_at}
use Rattle.pf_judge.proofs.contract.star_condition.Goals as goal

pub returns : goal.returns
returns c = λ m ok s b f all.
    let star = c.args.star.now in
    let far : c.shape-shape.result.close ≡ true → _ = λ h. absurd (let k : false ≡ true = sym c.shape-shape.ensures.close ∙ h in cc) in
    let around : AreAround star c.as_slice-2.result.now = subst (λ l. AreAround star l) (sym c.as_slice-2.ensures.value) c.names_around.ensures in
    let link = c.least_link-link.ensures m c.args.u ok s f ∙ ap (least_that (is_link_at m c.args.u c.args.v (spokes_of m c.args.v))) (c.as_slice.ensures.value ∙ sym c.as_slice-2.ensures.value) in
    c.shape_condition.ensures m c.args.u ok s b f all (c.shape-shape.ensures.shape m s (λ h. absurd (let k : false ≡ true = h in cc))) far around link
