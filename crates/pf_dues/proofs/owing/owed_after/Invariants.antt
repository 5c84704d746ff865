use Rattle.std.proofs.Common.{◌≡◌, ◌++◌, drop}
use Rattle.pf_dues.specs.Owed.{owed_all}
use Rattle.pf_dues.proofs.owing.owed_after.Given as goal

abbrev pub invariant-loop-pair : goal.invariant-loop-pair
invariant-loop-pair g l = l.list.items ++ owed_all (g.R.Rings.lent l.r) (drop l.pair-index l.fresh) ≡ owed_all (g.R.Rings.lent l.r) l.fresh
