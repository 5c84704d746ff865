use Rattle.std.proofs.Common.{◌∙◌, ap}
use Rattle.std.specs.Prelude.{Some}
use Rattle.pf_model.specs.Mesh.{place_of}
use Rattle.pf_star_model.specs.Lent.{sight_of}
use Rattle.pf_sight.proofs.places.apex_place.Goals as goal

pub returns-clause-value : goal.returns-clause-value
returns-clause-value c = λ bands. c.place_in.ensures.value bands ∙ ap (place_of (sight_of bands (Some c.args.star.now))) c.apex_of.ensures
