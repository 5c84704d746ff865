use Rattle.std.proofs.Common.{◌≡◌, ◌++◌, drop}
use Rattle.std.specs.Prelude.{map}
use Rattle.pf_patch.specs.Plans.{planned_pair}
use Rattle.pf_patch.proofs.build.pairs_after.Given as goal

abbrev pub invariant-loop-n : goal.invariant-loop-n
invariant-loop-n g l = l.list.items ++ map (planned_pair (g.R.Rings.lent l.r) l.plan.gone l.plan.added.items l.plan.dead l.plan.born) (drop l.n-index l.names) ≡ map (planned_pair (g.R.Rings.lent l.r) l.plan.gone l.plan.added.items l.plan.dead l.plan.born) l.names
