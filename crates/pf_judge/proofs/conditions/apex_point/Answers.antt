use Rattle.std.proofs.Common.{◌∙◌, ap}
use Rattle.pf_model.specs.Mesh.{place_of}
use Rattle.pf_judge.proofs.SpokesShown.{shown-point}
use Rattle.pf_judge.proofs.conditions.apex_point.Goals as goal

pub returns-clause-value : goal.returns-clause-value
returns-clause-value c = λ m s.
    c.point.ensures.value
    ∙ (shown-point c.args.table.now.sides c.args.table.now.nodes.items m s c.apex_of.result ∙ ap (place_of m) c.apex_of.ensures)
