use Rattle.std.specs.Prelude.{All}
use Rattle.pf_model.specs.Mesh.{Undivided}
use Rattle.pf_model.specs.Conforming.{IsConforming}
use Rattle.pf_model.specs.Stars.{spokes_of}
use Rattle.pf_edges.specs.Table.{ArePlacesInRange, Shows}
use Rattle.pf_rules.specs.Star.{AreSomeOf}
use Rattle.pf_spokes.specs.Spokes.{HasSpots}
use Rattle.pf_rest.proofs.around.gather_higher.Given as goal

abbrev pub invariant-row : goal.invariant-row
invariant-row l = record {
  part : (m : Undivided) → IsConforming m → Shows l.table.sides l.table.nodes.items m → AreSomeOf (spokes_of m l.u) l.fn.star.items → AreSomeOf (spokes_of m l.u) l.star.items;
  spots : ArePlacesInRange l.table.nodes.items → All HasSpots l.fn.star.items → All HasSpots l.star.items;
}
