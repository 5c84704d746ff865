use Rattle.std.proofs.Common.{◌++◌, sym, ◌∙◌, ap}
use Rattle.std.specs.Prelude.{Some, None}
use Rattle.pf_model.specs.declared.Op.TheVariants.{Contract}
use Rattle.pf_model.specs.Clauses.{first_of}
use Rattle.pf_model.specs.Rows.{edge_rows, contract_rows}
use Rattle.pf_star_model.specs.Lent.{sight_of, spokes_in}
use Rattle.pf_star_model.proofs.Judging.{judged_is_first_failing}
use Rattle.pf_rules.proofs.Firsts.{first-before, first-after}
use Rattle.pf_rings.proofs.Lent.{lent-star, lent-none}
use Rattle.pf_sight.proofs.Seen.{seen-by, unseen, no-edge}
use Rattle.pf_contract.proofs.judging.judge.Goals as goal

pub returns-in-Some-edge_refusal-clause-value : goal.returns-in-Some-edge_refusal-clause-value
returns-in-Some-edge_refusal-clause-value g c = λ m ok shown.
    let lent = g.R.Rings.lent c.args.r.now in
    let u = c.args.u in
    let v = c.args.v in
    let bands = c.args.bands.now in
    let star = c.star-star.result.now in
    let left = c.sides_at-sides.result.left in
    let right = c.sides_at-sides.result.right in
    let held = lent-star c.ring.result c.in-Some.ring (lent u) c.ring.ensures c.in-Some.is ∙ ap (λ s. Some s) (sym c.star-star.ensures) in
    first-before (edge_rows c.args.chunk u v left right) (contract_rows (sight_of bands (Some star)) u v left right star.spokes (spokes_in (lent v))) c.in-Some-edge_refusal.cond (sym c.in-Some-edge_refusal.is ∙ c.edge_refusal.ensures)
    ∙ seen-by (λ o l r. first_of (edge_rows c.args.chunk u v l r ++ contract_rows (sight_of bands o) u v l r (spokes_in o) (spokes_in (lent v)))) lent u v star left right held c.sides_at-sides.ensures.left c.sides_at-sides.ensures.right

pub returns-in-None-clause-value : goal.returns-in-None-clause-value
returns-in-None-clause-value g c = λ m ok shown.
    let lent = g.R.Rings.lent c.args.r.now in
    let u = c.args.u in
    let v = c.args.v in
    let bands = c.args.bands.now in
    let star = c.star-star.result.now in
    let left = c.sides_at-sides.result.left in
    let right = c.sides_at-sides.result.right in
    let held = lent-star c.ring.result c.in-Some.ring (lent u) c.ring.ensures c.in-Some.is ∙ ap (λ s. Some s) (sym c.star-star.ensures) in
    (c.alone_refusal.ensures m ok (sym shown ∙ held) ∙ (λ i. first_of (contract_rows (sight_of bands (Some star)) u v left right star.spokes (c.spokes_lent.ensures i))))
    ∙ (first-after (edge_rows c.args.chunk u v left right) (contract_rows (sight_of bands (Some star)) u v left right star.spokes (spokes_in (lent v))) (sym c.in-None.is ∙ c.edge_refusal.ensures)
    ∙ seen-by (λ o l r. first_of (edge_rows c.args.chunk u v l r ++ contract_rows (sight_of bands o) u v l r (spokes_in o) (spokes_in (lent v)))) lent u v star left right held c.sides_at-sides.ensures.left c.sides_at-sides.ensures.right)

pub returns-in_default-clause-value : goal.returns-in_default-clause-value
returns-in_default-clause-value g c = λ m ok shown.
    let lent = g.R.Rings.lent c.args.r.now in
    let u = c.args.u in
    let v = c.args.v in
    let bands = c.args.bands.now in
    no-edge c.args.chunk u v (contract_rows (sight_of bands None) u v None None (spokes_in None) (spokes_in (lent v)))
    ∙ unseen (λ o l r. first_of (edge_rows c.args.chunk u v l r ++ contract_rows (sight_of bands o) u v l r (spokes_in o) (spokes_in (lent v)))) lent u v (lent-none c.ring.result (lent u) c.ring.ensures c.in_default.is)

pub returns-in-Some-edge_refusal-clause-on_mesh : goal.returns-in-Some-edge_refusal-clause-on_mesh
returns-in-Some-edge_refusal-clause-on_mesh g c = λ m ok bands ends. returns-in-Some-edge_refusal-clause-value g c m ok ends.0 ∙ judged_is_first_failing m (g.R.Rings.lent c.args.r.now) c.args.bands.now c.args.chunk (Contract c.args.u c.args.v) ok bands ends.0 ends.1 tt

pub returns-in-None-clause-on_mesh : goal.returns-in-None-clause-on_mesh
returns-in-None-clause-on_mesh g c = λ m ok bands ends. returns-in-None-clause-value g c m ok ends.0 ∙ judged_is_first_failing m (g.R.Rings.lent c.args.r.now) c.args.bands.now c.args.chunk (Contract c.args.u c.args.v) ok bands ends.0 ends.1 tt

pub returns-in_default-clause-on_mesh : goal.returns-in_default-clause-on_mesh
returns-in_default-clause-on_mesh g c = λ m ok bands ends. returns-in_default-clause-value g c m ok ends.0 ∙ judged_is_first_failing m (g.R.Rings.lent c.args.r.now) c.args.bands.now c.args.chunk (Contract c.args.u c.args.v) ok bands ends.0 ends.1 tt
