use Rattle.std.proofs.Common.{◌&&◌, not, pos, sym, ◌∙◌, ap}
use Rattle.std.specs.Prelude.{Some, is_some, unwrap_or}
use Rattle.std.specs.Ordering.{int_eq}
use Rattle.pf_geom.specs.Plane.{orient_of}
use Rattle.pf_model.specs.Mesh.{turn_at}
use Rattle.pf_star_model.specs.Lent.{sight_of}
use Rattle.pf_contract.proofs.shape.is_bent.Goals as goal

pub returns-in-Some : goal.returns-in-Some
returns-in-Some c = λ bands.
    ap not (c.is_flat.ensures ∙ (λ i. int_eq (orient_of (c.place_in.ensures.value bands i) (c.place_in-in-Some.ensures.value bands i) (c.place_in-in-Some-2.ensures.value bands i)) (pos 0)))
    ∙ (λ i. is_some (sym c.in-Some.is i) && not (int_eq (turn_at (sight_of bands (Some c.args.star.now)) (unwrap_or (sym c.in-Some.is i) 0) c.args.u c.args.last) (pos 0)))
