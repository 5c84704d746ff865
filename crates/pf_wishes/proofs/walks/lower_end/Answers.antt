use Rattle.std.proofs.Common.{◌∙◌, [], ap}
use Rattle.std.specs.Prelude.{Some, min}
use Rattle.pf_model.specs.Mesh.{place_of}
use Rattle.pf_star_model.specs.Lent.{sight_of}
use Rattle.pf_wishes.proofs.walks.lower_end.Goals as goal

pub returns-clause-at : goal.returns-clause-at
returns-clause-at c = c.placed.ensures.at [] ∙ ap (place_of (sight_of [] (Some c.args.star.now))) (c.placed.ensures.name ∙ (c.min.ensures ∙ ap (λ k. min k c.args.x) c.node.ensures))
