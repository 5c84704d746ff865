use Rattle.std.proofs.Common.{◌≡◌, drop}
use Rattle.std.specs.Prelude.{filter, fold, map, not, nat_lt}
use Rattle.pf_model.specs.Conditions.{lesser, least_that}
use Rattle.pf_ghost.proofs.owners.owner_from.Given as goal

abbrev pub invariant-loop-s : goal.invariant-loop-s
invariant-loop-s l = fold lesser l.least (filter (λ k. not (nat_lt k l.first)) (map (λ s. s.owner) (drop l.s-index l.spokes))) ≡ least_that (λ k. not (nat_lt k l.first)) (map (λ s. s.owner) l.spokes)
