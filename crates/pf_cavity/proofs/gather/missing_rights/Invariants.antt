use Rattle.std.proofs.Common.{◌≡◌, drop}
use Rattle.std.specs.Prelude.{not, filter, fold, map, is_some}
use Rattle.pf_model.specs.Conditions.{lesser}
use Rattle.pf_cavity.proofs.gather.missing_rights.Given as goal

abbrev pub invariant-loop-s : goal.invariant-loop-s
invariant-loop-s g l = fold lesser l.found (filter (λ k. not (is_some (g.R.Rings.lent l.r k))) (map (λ s. s.right) (drop l.s-index l.spokes))) ≡ fold lesser l.fn.least (filter (λ k. not (is_some (g.R.Rings.lent l.r k))) (map (λ s. s.right) l.spokes))
