use Rattle.std.proofs.Common.{◌≡◌, ◌++◌, take, drop}
use Rattle.std.specs.Prelude.{map}
use Rattle.pf_ghost.specs.Renamed.{renamed_sharer}
use Rattle.pf_ghost.proofs.sharers.rename_all.Given as goal

abbrev pub invariant-loop-k : goal.invariant-loop-k
invariant-loop-k l = l.list.items ≡ map (renamed_sharer l.old l.name) (take l.k l.initial.list.items) ++ drop l.k l.initial.list.items
