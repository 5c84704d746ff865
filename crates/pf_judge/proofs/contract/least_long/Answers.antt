use Rattle.std.proofs.Common.{sym, ◌∙◌, ap, drop, filter, ◌+◌}
use Rattle.std.specs.Prelude.{fold}
use Rattle.pf_model.specs.Stars.{spokes_of}
use Rattle.pf_model.specs.Rows.{lesser, is_too_long}
use Rattle.pf_rules.specs.Contract.{is_link_at}
use Rattle.pf_judge.proofs.NewEdges.{none-at, least-with, least-without}
use Rattle.pf_judge.proofs.contract.least_long.Goals.{then-is_new_long, else-is_new_long}
use Rattle.pf_judge.proofs.contract.least_long.Goals as goal

pub loop-x-preserved : goal.loop-x-preserved
loop-x-preserved c = λ m u ok s b f none.
    let p = is_too_long m c.args.v (spokes_of m c.args.v) in
    let names = c.args.names.now in
    let at = c.loop-x.x-index in
    let within = c.loop-x-test.true in
    let left = filter p (drop (at + 1) names) in
    let told = c.is_new_long.ensures m u ok s b f (none-at (is_link_at m u c.args.v (spokes_of m c.args.v)) names at 0 none within) in
    let before = c.loop-x.invariant m u ok s b f none in
    elim c.if-is_new_long.branch [
      | then-is_new_long w ↦ ap (λ o. fold lesser o left) (w.least-is ∙ w.lesser_of-least.ensures) ∙ (least-with p names at 0 c.loop-x.least within (sym told ∙ w.if-is_new_long.true) ∙ before)
      | else-is_new_long w ↦ ap (λ o. fold lesser o left) w.least-is ∙ (least-without p names at 0 c.loop-x.least within (sym told ∙ w.if-is_new_long.false) ∙ before)
    ]
