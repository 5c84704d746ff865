use Rattle.std.proofs.Common.{◌≡◌, drop}
use Rattle.std.specs.Prelude.{filter, fold, map}
use Rattle.pf_model.specs.Rows.{is_link_node, lesser}
use Rattle.pf_contract.proofs.links.least_left.Given as goal

abbrev pub invariant-loop-s : goal.invariant-loop-s
invariant-loop-s l = fold lesser l.found (filter (is_link_node l.sides.left l.sides.right l.around) (map (λ s. s.left) (drop l.s-index l.spokes))) ≡ fold lesser l.fn.least (filter (is_link_node l.sides.left l.sides.right l.around) (map (λ s. s.left) l.spokes))
