use Rattle.std.proofs.Common.{◌≡◌, drop}
use Rattle.std.specs.Prelude.{filter, fold, map}
use Rattle.pf_model.specs.Conditions.{lesser}
use Rattle.pf_rings.specs.Least.{past}
use Rattle.pf_rings.proofs.spokes.least_left.Given as goal

abbrev pub invariant-loop-s : goal.invariant-loop-s
invariant-loop-s l = fold lesser l.found (filter (past l.after) (map (λ s. s.left) (drop l.s-index l.spokes))) ≡ fold lesser l.fn.least (filter (past l.after) (map (λ s. s.left) l.spokes))
