use Rattle.std.proofs.Common.{◌≡◌, ◌<◌, ◌≤◌, List, sym, ◌∙◌, ap, subst}
use Rattle.std.specs.Prelude.{Some, length, false, true}
use Rattle.pf_model.specs.declared.Spoke.{Spoke}
use Rattle.pf_model.specs.Stars.{is_one_fan}
use Rattle.pf_star_model.specs.Lent.{sight_of}
use Rattle.pf_star_model.proofs.Shown.{star_parts}
use Rattle.pf_contract.proofs.Stars.{too-wide, pinched, fanned, star-placed}
use Rattle.pf_contract.proofs.judging.alone_refusal.Goals as goal

pub returns-then-spokes-gt-MOST_TRIANGLES : goal.returns-then-spokes-gt-MOST_TRIANGLES
returns-then-spokes-gt-MOST_TRIANGLES c = λ m ok star.
    let us = c.args.star.now.spokes in
    let wide : 60 < length us = subst (λ (l : List Spoke). 60 < length l) c.spokes.ensures.value c.if-spokes-gt-MOST_TRIANGLES.true in
    too-wide (sight_of c.args.bands.now (Some c.args.star.now)) c.args.u c.args.v c.args.sides.left c.args.sides.right us c.args.around.now wide

pub returns-then-not-is_fan : goal.returns-then-not-is_fan
returns-then-not-is_fan c = λ m ok star.
    let us = c.args.star.now.spokes in
    let few : length us ≤ 60 = subst (λ (l : List Spoke). length l ≤ 60) c.spokes.ensures.value c.if-spokes-gt-MOST_TRIANGLES.false in
    let told = c.is_fan.ensures m c.args.u ok (c.spokes-2.ensures.value ∙ (star_parts m c.args.u c.args.star.now star).spokes) in
    let torn : is_one_fan us ≡ false = ap is_one_fan (sym c.spokes-2.ensures.value) ∙ (sym told ∙ c.if-not-is_fan.true) in
    pinched (sight_of c.args.bands.now (Some c.args.star.now)) c.args.u c.args.v c.args.sides.left c.args.sides.right us c.args.around.now few torn

pub returns : goal.returns
returns c = λ m ok star.
    let us = c.args.star.now.spokes in
    let few : length us ≤ 60 = subst (λ (l : List Spoke). length l ≤ 60) c.spokes.ensures.value c.if-spokes-gt-MOST_TRIANGLES.false in
    let told = c.is_fan.ensures m c.args.u ok (c.spokes-2.ensures.value ∙ (star_parts m c.args.u c.args.star.now star).spokes) in
    let fan : is_one_fan us ≡ true = ap is_one_fan (sym c.spokes-2.ensures.value) ∙ (sym told ∙ c.if-not-is_fan.false) in
    c.star_refusal.ensures (star-placed m ok c.args.bands.now c.args.u c.args.star.now star)
    ∙ fanned (sight_of c.args.bands.now (Some c.args.star.now)) c.args.u c.args.v c.args.sides.left c.args.sides.right us c.args.around.now few fan
