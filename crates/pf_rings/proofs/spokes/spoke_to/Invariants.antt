use Rattle.std.proofs.Common.{◌≡◌, drop}
use Rattle.pf_model.specs.Stars.{left_after}
use Rattle.pf_star_model.specs.Lent.{side_to}
use Rattle.pf_rings.specs.Points.{first_to}
use Rattle.pf_rings.proofs.spokes.spoke_to.Given as goal

abbrev pub invariant-loop-s : goal.invariant-loop-s
invariant-loop-s l = (side_to l.n (drop l.s-index l.spokes) ≡ side_to l.n l.spokes) × (left_after (drop l.s-index l.spokes) l.n ≡ left_after l.spokes l.n) × (first_to l.n (drop l.s-index l.spokes) ≡ first_to l.n l.spokes)
