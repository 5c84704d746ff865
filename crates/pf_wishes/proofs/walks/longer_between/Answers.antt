use Rattle.std.proofs.Common.{◌∙◌, [], ap, sym}
use Rattle.std.specs.Prelude.{Some}
use Rattle.pf_model.specs.Mesh.{place_of}
use Rattle.pf_model.specs.Wishes.{longer_on, either_of}
use Rattle.pf_star_model.specs.Lent.{sight_of}
use Rattle.pf_wishes.proofs.walks.longer_between.Goals as goal

pub returns : goal.returns
returns c =
    let m = sight_of [] (Some c.args.star.now) in
    let lo = c.lower_end-lo.ensures in
    let hi = c.higher_end-hi.ensures in
    let lo_at = lo.at ∙ ap (place_of m) (sym lo.name) in
    let hi_at = hi.at ∙ ap (place_of m) (sym hi.name) in
    let left = c.longer_beside.ensures m lo_at hi_at (c.apex_place.ensures.value []) in
    let right = c.longer_beside-2.ensures m lo_at hi_at (c.apex_place-2.ensures.value []) in
    c.first_of_two.ensures
    ∙ ((λ i. either_of (left i) (right i))
    ∙ λ i. either_of (longer_on m (record { lo = lo.name i; hi = hi.name i }) (c.requires.left i)) (longer_on m (record { lo = lo.name i; hi = hi.name i }) (c.requires.right i)))
