use Rattle.std.proofs.Common.{◌≡◌, drop}
use Rattle.std.specs.Prelude.{filter, fold, map}
use Rattle.pf_model.specs.Conditions.{lesser, least_that}
use Rattle.pf_rings.specs.Least.{past}
use Rattle.pf_rings.proofs.spokes.least_right.Given as goal

abbrev pub invariant-loop-s : goal.invariant-loop-s
invariant-loop-s l = fold lesser l.least (filter (past l.after) (map (λ s. s.right) (drop l.s-index l.spokes))) ≡ least_that (past l.after) (map (λ s. s.right) l.spokes)
