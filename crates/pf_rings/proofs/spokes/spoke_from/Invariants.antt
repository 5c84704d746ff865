use Rattle.std.proofs.Common.{◌≡◌, drop}
use Rattle.pf_star_model.specs.Lent.{side_from}
use Rattle.pf_star_model.specs.Rings.{right_before}
use Rattle.pf_rings.specs.Points.{first_from}
use Rattle.pf_rings.proofs.spokes.spoke_from.Given as goal

abbrev pub invariant-loop-s : goal.invariant-loop-s
invariant-loop-s l = (side_from l.n (drop l.s-index l.spokes) ≡ side_from l.n l.spokes) × (right_before (drop l.s-index l.spokes) l.n ≡ right_before l.spokes l.n) × (first_from l.n (drop l.s-index l.spokes) ≡ first_from l.n l.spokes)
