use Rattle.std.proofs.Common.{◌≡◌}
use Rattle.std.specs.Prelude.{map}
use Rattle.pf_star_model.specs.Patched.{renamed_pair}
use Rattle.pf_ghost.specs.Spread.{later_name}
use Rattle.pf_dues.proofs.renaming.rename_all.Given as goal

abbrev pub invariant-loop-pair : goal.invariant-loop-pair
invariant-loop-pair l = l.list.items ≡ map (renamed_pair later_name l.name) l.yielded
