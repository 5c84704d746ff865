use Rattle.std.proofs.Common.{List, sym, subst}
use Rattle.std.specs.Prelude.{All}
use Rattle.pf_model.specs.declared.Spoke.{Spoke}
use Rattle.pf_spokes.specs.Spokes.{HasSpots}
use Rattle.pf_sweep.proofs.Turns.{spots-by}
use Rattle.pf_sweep.proofs.sweep.star_of_site.Goals as goal

pub of_parts-requires-clause-spokes : goal.of_parts-requires-clause-spokes
of_parts-requires-clause-spokes c =
    let P : List Spoke → Type 0 = λ l. All HasSpots l in
    subst P (sym c.in_ok-spokes.ensures) (spots-by c.args.points.now c.args.corners.now c.requires.points)
