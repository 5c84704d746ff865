use Rattle.std.proofs.Common.{◌≡◌, drop}
use Rattle.std.specs.Prelude.{filter, fold, map}
use Rattle.pf_model.specs.Rows.{lesser, least_that}
use Rattle.pf_wishes.specs.First.{is_wish}
use Rattle.pf_wishes.proofs.wishes.least_right.Given as goal

abbrev pub invariant-loop-s : goal.invariant-loop-s
invariant-loop-s l = fold lesser l.least (filter (is_wish l.bands l.chunks l.star) (map (λ s. s.right) (drop l.s-index l.spokes))) ≡ least_that (is_wish l.bands l.chunks l.star) (map (λ s. s.right) l.spokes)
