use Rattle.std.proofs.Common.{◌∙◌, arith}
use Rattle.pf_plain.specs.Stars.{star_by}
use Rattle.pf_plain.proofs.Begun.{all_placed, each_below}
use Rattle.pf_plain.proofs.plain.Plain.new.Goals as goal

pub place_stars-requires : goal.place_stars-requires
place_stars-requires c = λ s i.
    let low = each_below c.args.m.mesh c.in_ok-list.list.items c.requires.live c.in_ok-list.ensures s i in
    let len = c.in_ok-stars.ensures.len in
    let first = c.first_new.ensures.value in
    omega (arith, low, len, first)

pub begun-requires-clause-stars : goal.begun-requires-clause-stars
begun-requires-clause-stars c = λ n. c.place_stars.ensures.placed n ∙ all_placed c.args.m.mesh c.in_ok-list.list.items (star_by c.in_ok-stars.stars.items) c.in_ok-stars.ensures.none c.in_ok-list.ensures n
