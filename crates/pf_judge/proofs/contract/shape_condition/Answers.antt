use Rattle.std.proofs.Common.{◌∙◌, List, [], ◌∷◌, sym, ap, subst}
use Rattle.std.specs.Prelude.{All}
use Rattle.pf_model.specs.declared.Spoke.{Spoke}
use Rattle.pf_model.specs.Mesh.{side_of}
use Rattle.pf_model.specs.Stars.{spokes_of}
use Rattle.pf_model.specs.Rows.{least_that, neighbours, is_too_long}
use Rattle.pf_rules.specs.Contract.{is_link_at, shape_rows, far_row}
use Rattle.pf_rules.specs.Star.{IsSpokePlaced}
use Rattle.pf_rules.proofs.Firsts.{first-before, first-after, first-last, no-link}
use Rattle.pf_rules.proofs.StarSpots.{spokes-all-placed}
use Rattle.pf_judge.proofs.SpokesShown.{shown-point}
use Rattle.pf_judge.proofs.contract.shape_condition.Goals as goal

pub returns-in-Some : goal.returns-in-Some
returns-in-Some c = λ m u ok s bands f star shape close around link.
    let v = c.args.v in
    let us = c.args.star.now in
    let vs = spokes_of m v in
    let P : List Spoke → Type 0 = λ ss. All (IsSpokePlaced m) ss in
    let told = c.contract_refusal.ensures m u (side_of m.tris u v) (side_of m.tris v u) vs
    (c.point.ensures.value ∙ shown-point c.args.table.now.sides c.args.table.now.nodes.items m s v)
    (subst P (sym star) (spokes-all-placed m u))
    shape
    (link ∙ around (is_link_at m u v vs))
    in
    first-before (shape_rows m u v (side_of m.tris u v) (side_of m.tris v u) us vs) (far_row v (least_that (is_too_long m v vs) (neighbours us)) ∷ []) c.in-Some.cond (sym c.in-Some.is ∙ told)

pub returns-in-None : goal.returns-in-None
returns-in-None c = λ m u ok s bands f star shape close around link.
    let v = c.args.v in
    let us = c.args.star.now in
    let vs = spokes_of m v in
    let P : List Spoke → Type 0 = λ ss. All (IsSpokePlaced m) ss in
    let told = c.contract_refusal.ensures m u (side_of m.tris u v) (side_of m.tris v u) vs
    (c.point.ensures.value ∙ shown-point c.args.table.now.sides c.args.table.now.nodes.items m s v)
    (subst P (sym star) (spokes-all-placed m u))
    shape
    (link ∙ around (is_link_at m u v vs))
    in
    let none = sym c.in-None.is ∙ told in
    let unlinked = around (is_link_at m u v vs) ∙ no-link m u v (side_of m.tris u v) (side_of m.tris v u) us vs none in
    let far = c.least_far.ensures m u us ok s bands f shape close around unlinked ∙ around (is_too_long m v vs) in
    let last = far_row v (least_that (is_too_long m v vs) (neighbours us)) in
    (c.far_refusal.ensures ∙ ap (far_row v) far)
    ∙ (first-last last ∙ first-after (shape_rows m u v (side_of m.tris u v) (side_of m.tris v u) us vs) (last ∷ []) none)
