use Rattle.std.proofs.Common.{◌-◌, length}
use Rattle.std.specs.Prelude.{All}
use Rattle.pf_model.specs.Mesh.{Undivided}
use Rattle.pf_model.specs.Conforming.{IsConforming}
use Rattle.pf_model.specs.Stars.{spokes_of}
use Rattle.pf_edges.specs.Table.{ArePlacesInRange, Shows}
use Rattle.pf_rules.specs.Star.{IsChainToLeft}
use Rattle.pf_spokes.specs.Spokes.{HasSpots}
use Rattle.pf_judge.proofs.star.turn_right.Given as goal

abbrev pub decreases-turns : goal.decreases-turns
decreases-turns l = l.most - length l.found.items

abbrev pub invariant-turns : goal.invariant-turns
invariant-turns l = record {
  found : (m : Undivided) → IsConforming m → Shows l.table.sides l.table.nodes.items m → IsChainToLeft (spokes_of m l.u) l.fn.found.items l.fn.ends.first l.last → IsChainToLeft (spokes_of m l.u) l.found.items l.left l.last;
  spots : ArePlacesInRange l.table.nodes.items → All HasSpots l.fn.found.items → All HasSpots l.found.items;
}
