use Rattle.std.proofs.Common.{◌≡◌, drop}
use Rattle.pf_model.specs.Stars.{path_start}
use Rattle.pf_spokes.proofs.first_right.Given as goal

abbrev pub invariant-loop-s : goal.invariant-loop-s
invariant-loop-s l = path_start (drop l.s-index l.spokes) l.spokes ≡ path_start l.spokes l.spokes
