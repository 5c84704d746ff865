use Rattle.std.proofs.Common.{◌≡◌, drop}
use Rattle.std.specs.Prelude.{not, filter, fold, map, is_some}
use Rattle.pf_model.specs.Conditions.{lesser}
use Rattle.pf_cavity.proofs.gather.missing_lefts.Given as goal

abbrev pub invariant-loop-s : goal.invariant-loop-s
invariant-loop-s g l = fold lesser l.found (filter (λ k. not (is_some (g.R.Rings.lent l.r k))) (map (λ s. s.left) (drop l.s-index l.spokes))) ≡ fold lesser l.fn.least (filter (λ k. not (is_some (g.R.Rings.lent l.r k))) (map (λ s. s.left) l.spokes))
