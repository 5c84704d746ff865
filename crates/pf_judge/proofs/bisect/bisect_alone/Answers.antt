use Rattle.std.proofs.Common.{◌∙◌}
use Rattle.pf_model.specs.Clauses.{first_of}
use Rattle.pf_model.specs.Rows.{bisect_rows}
use Rattle.pf_judge.proofs.SpokesShown.{shown-point}
use Rattle.pf_judge.proofs.bisect.bisect_alone.Goals as goal

pub returns : goal.returns
returns c = λ m s bands f.
    let sides = c.args.table.now.sides in
    let nodes = c.args.table.now.nodes.items in
    c.bisect_refusal.ensures m bands
    (c.point.ensures.value ∙ shown-point sides nodes m s c.args.lo)
    (c.point-2.ensures.value ∙ shown-point sides nodes m s c.args.hi)
    (c.apex_point.ensures.value m s)
    (c.apex_point-2.ensures.value m s)
    ∙ (λ i. first_of (bisect_rows m c.args.lo c.args.hi (f.on_left i) (f.on_right i)))
