use Rattle.std.proofs.Common.{◌≡◌, drop}
use Rattle.std.specs.Prelude.{filter, fold, map}
use Rattle.pf_model.specs.Rows.{is_link_node, least_that, lesser}
use Rattle.pf_contract.proofs.links.least_right.Given as goal

abbrev pub invariant-loop-s : goal.invariant-loop-s
invariant-loop-s l = fold lesser l.least (filter (is_link_node l.sides.left l.sides.right l.around) (map (λ s. s.right) (drop l.s-index l.spokes))) ≡ least_that (is_link_node l.sides.left l.sides.right l.around) (map (λ s. s.right) l.spokes)
