use Rattle.std.proofs.Common.{◌∙◌, ◌||◌}
use Rattle.std.specs.Prelude.{is_some}
use Rattle.pf_rings.specs.Points.{first_from, first_to}
use Rattle.pf_wishes.proofs.Spokes.{near-by}
use Rattle.pf_wishes.proofs.beside.spokes_at.Goals as goal

pub returns-clause-near : goal.returns-clause-near
returns-clause-near c =
    let to = c.spoke_to.ensures.first ∙ λ i. first_to c.args.x (c.spokes.ensures.value i) in
    let from = c.spoke_from.ensures.first ∙ λ i. first_from c.args.x (c.spokes-2.ensures.value i) in
    (λ i. is_some (to i) || is_some (from i)) ∙ near-by c.args.x c.args.star.now.spokes
