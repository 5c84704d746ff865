use Rattle.std.proofs.Common.{◌≡◌, ◌++◌, take, drop}
use Rattle.std.specs.Prelude.{map}
use Rattle.pf_star_model.specs.Patched.{renamed_spoke}
use Rattle.pf_rings.proofs.rename.rename_spokes.Given as goal

abbrev pub invariant-loop-k : goal.invariant-loop-k
invariant-loop-k l = l.spokes ≡ map (renamed_spoke l.old l.name) (take l.k l.initial.spokes) ++ drop l.k l.initial.spokes
