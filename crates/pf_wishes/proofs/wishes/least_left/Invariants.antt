use Rattle.std.proofs.Common.{◌≡◌, drop}
use Rattle.std.specs.Prelude.{filter, fold, map, not}
use Rattle.pf_model.specs.Rows.{lesser}
use Rattle.pf_spokes.specs.Spokes.{has_right}
use Rattle.pf_wishes.specs.First.{is_wish}
use Rattle.pf_wishes.proofs.wishes.least_left.Given as goal

abbrev pub invariant-loop-s : goal.invariant-loop-s
invariant-loop-s l = fold lesser l.found (filter (is_wish l.bands l.chunks l.star) (map (λ s. s.left) (filter (λ s. not (has_right s.left l.star.spokes)) (drop l.s-index l.spokes)))) ≡ fold lesser l.fn.least (filter (is_wish l.bands l.chunks l.star) (map (λ s. s.left) (filter (λ s. not (has_right s.left l.star.spokes)) l.spokes)))
