use Rattle.std.proofs.Common.{◌∙◌, ◌++◌, List, ap, map, filter, not}
use Rattle.std.proofs.lemmas.List.{take_all}
use Rattle.pf_model.specs.declared.Spoke.{Spoke}
use Rattle.pf_model.specs.Rows.{least_that}
use Rattle.pf_spokes.specs.Spokes.{has_right}
use Rattle.pf_rules.proofs.Least.{least-of_names}
use Rattle.pf_rules.proofs.contract.names_around.Goals as goal

pub returns : goal.returns
returns c = λ p.
    let star = c.args.star.now in
    let all = take_all c.loop-s-2.s-index star c.loop-s-2-test.false in
    ap (least_that p) (c.loop-s-2.invariant.0 ∙ ap (λ (l : List Spoke). map (λ s. s.right) star ++ map (λ s. s.left) (filter (λ s. not (has_right s.left star)) l)) all) ∙ least-of_names p star
