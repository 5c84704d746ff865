use Rattle.std.proofs.Common.{◌≡◌, drop}
use Rattle.pf_model.specs.Stars.{path_end}
use Rattle.pf_spokes.proofs.last_left.Given as goal

abbrev pub invariant-loop-s : goal.invariant-loop-s
invariant-loop-s l = path_end (drop l.s-index l.spokes) l.spokes ≡ path_end l.spokes l.spokes
