use Rattle.std.proofs.Common.{◌≡◌, ◌++◌, drop}
use Rattle.std.specs.Prelude.{filter, not}
use Rattle.pf_patch.specs.Tris.{gone_from}
use Rattle.pf_patch.proofs.put.keep.Given as goal

abbrev pub invariant-loop-s : goal.invariant-loop-s
invariant-loop-s l = l.list.items ++ filter (λ s. not (gone_from l.gone l.n s)) (drop l.s-index l.spokes) ≡ filter (λ s. not (gone_from l.gone l.n s)) l.spokes
