use Rattle.std.proofs.Common.{List, [], ◌∷◌, refl, sym, ◌∙◌, ap, subst}
use Rattle.std.specs.Prelude.{All, Some}
use Rattle.pf_model.specs.declared.Spoke.{Spoke}
use Rattle.pf_model.specs.Clauses.{first_of}
use Rattle.pf_model.specs.Mesh.{Undivided}
use Rattle.pf_model.specs.Rows.{is_too_long, least_that, neighbours}
use Rattle.pf_star_model.specs.Lent.{sight_of}
use Rattle.pf_rules.specs.Contract.{IsShape, far_row, shape_rows}
use Rattle.pf_rules.specs.Star.{IsSpokePlaced}
use Rattle.pf_rules.proofs.Firsts.{first-before, first-after, first-last}
use Rattle.pf_contract.proofs.judging.star_refusal.Goals as goal

pub contract_refusal-requires-clause-spots : goal.contract_refusal-requires-clause-spots
contract_refusal-requires-clause-spots c = λ k d within. let h = c.spokes-spokes.ensures.in_range k d within in record { right = h.right; left = h.left }

pub returns-in-Some : goal.returns-in-Some
returns-in-Some c = λ placed.
    let w : Undivided = sight_of c.args.bands.now (Some c.args.star.now) in
    let u = c.args.u in
    let v = c.args.v in
    let l = c.args.sides.left in
    let r = c.args.sides.right in
    let us = c.args.star.now.spokes in
    let vs = c.args.around.now in
    let P : List Spoke → Type 0 = λ ss. All (IsSpokePlaced w) ss in
    let Q : List Spoke → Type 0 = λ ss. IsShape w u ss c.shape_of.result in
    let same = c.spokes-spokes.ensures.value in
    let told = c.contract_refusal.ensures w u l r vs (c.placed-stays.ensures.at c.args.bands.now) (subst P (sym same) placed) (subst Q (sym same) (c.shape_of.ensures c.args.bands.now)) c.least_link-link.ensures ∙ (λ i. first_of (shape_rows w u (c.placed-stays.ensures.name i) l r (same i) vs)) in
    first-before (shape_rows w u v l r us vs) (far_row v (least_that (is_too_long w v vs) (neighbours us)) ∷ []) c.in-Some.cond (sym c.in-Some.is ∙ told)

pub returns-in-None : goal.returns-in-None
returns-in-None c = λ placed.
    let w : Undivided = sight_of c.args.bands.now (Some c.args.star.now) in
    let u = c.args.u in
    let v = c.args.v in
    let l = c.args.sides.left in
    let r = c.args.sides.right in
    let us = c.args.star.now.spokes in
    let vs = c.args.around.now in
    let P : List Spoke → Type 0 = λ ss. All (IsSpokePlaced w) ss in
    let Q : List Spoke → Type 0 = λ ss. IsShape w u ss c.shape_of.result in
    let same = c.spokes-spokes.ensures.value in
    let at = c.placed-stays.ensures.at c.args.bands.now in
    let told = c.contract_refusal.ensures w u l r vs at (subst P (sym same) placed) (subst Q (sym same) (c.shape_of.ensures c.args.bands.now)) c.least_link-link.ensures ∙ (λ i. first_of (shape_rows w u (c.placed-stays.ensures.name i) l r (same i) vs)) in
    let far = c.least_far.ensures w refl at (subst P (sym same) placed) ∙ (λ i. least_that (is_too_long w (c.placed-stays.ensures.name i) vs) (neighbours (same i))) in
    let last = far_row v (least_that (is_too_long w v vs) (neighbours us)) in
    (c.far_refusal.ensures ∙ ap (far_row v) far)
    ∙ (first-last last ∙ first-after (shape_rows w u v l r us vs) (last ∷ []) (sym c.in-None.is ∙ told))
