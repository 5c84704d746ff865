use Rattle.std.proofs.Common.{[], ◌∷◌, ◌++◌, sym, ◌∙◌, ap}
use Rattle.std.specs.Prelude.{Some, None, min, max}
use Rattle.pf_model.specs.declared.Op.TheVariants.{Flip}
use Rattle.pf_model.specs.Clauses.{first_of}
use Rattle.pf_model.specs.Rows.{apex_or, edge_rows, flip_rows, there_row}
use Rattle.pf_model.specs.Stars.{is_neighbour}
use Rattle.pf_star_model.specs.Lent.{sight_of, spokes_in, side_to, side_from}
use Rattle.pf_star_model.proofs.Judging.{judged_is_first_failing}
use Rattle.pf_rules.proofs.Firsts.{first-before, first-after, first-last}
use Rattle.pf_rings.proofs.Lent.{lent-star, lent-none}
use Rattle.pf_sight.proofs.Seen.{seen-by, unseen, no-edge}
use Rattle.pf_flip.proofs.judging.judge.Goals as goal

pub returns-in-Some-ends_refusal-clause-value : goal.returns-in-Some-ends_refusal-clause-value
returns-in-Some-ends_refusal-clause-value g c = λ bands.
    let lent = g.R.Rings.lent c.args.r.now in
    let lo = min c.args.a c.args.b in
    let hi = max c.args.a c.args.b in
    let star = c.star-star.result.now in
    let left = c.sides_at-sides.result.left in
    let right = c.sides_at-sides.result.right in
    let there = there_row left right (is_neighbour (apex_or right) (spokes_in (lent (apex_or left)))) in
    let shown = ap lent (sym c.min.ensures) ∙ (lent-star c.ring.result c.in-Some.ring (lent c.min.result) c.ring.ensures c.in-Some.is ∙ ap (λ s. Some s) (sym c.star-star.ensures)) in
    first-before (edge_rows c.args.chunk c.args.a c.args.b left right ++ flip_rows (sight_of [] (Some star)) lo hi left right) (there ∷ []) c.in-Some-ends_refusal.cond (sym c.in-Some-ends_refusal.is ∙ c.ends_refusal.ensures)
    ∙ seen-by (λ o l r. first_of (edge_rows c.args.chunk c.args.a c.args.b l r ++ (flip_rows (sight_of bands o) lo hi l r ++ there_row l r (is_neighbour (apex_or r) (spokes_in (lent (apex_or l)))) ∷ []))) lent lo hi star left right shown
    (c.sides_at-sides.ensures.left ∙ ap (λ n. side_to n star.spokes) c.max.ensures)
    (c.sides_at-sides.ensures.right ∙ ap (λ n. side_from n star.spokes) c.max.ensures)

pub returns-in-None-clause-value : goal.returns-in-None-clause-value
returns-in-None-clause-value g c = λ bands.
    let lent = g.R.Rings.lent c.args.r.now in
    let lo = min c.args.a c.args.b in
    let hi = max c.args.a c.args.b in
    let star = c.star-star.result.now in
    let left = c.sides_at-sides.result.left in
    let right = c.sides_at-sides.result.right in
    let there = there_row left right (is_neighbour (apex_or right) (spokes_in (lent (apex_or left)))) in
    let shown = ap lent (sym c.min.ensures) ∙ (lent-star c.ring.result c.in-Some.ring (lent c.min.result) c.ring.ensures c.in-Some.is ∙ ap (λ s. Some s) (sym c.star-star.ensures)) in
    (c.there_refusal.ensures ∙ ap (there_row left right) c.is_there.ensures)
    ∙ (first-last there
    ∙ (first-after (edge_rows c.args.chunk c.args.a c.args.b left right ++ flip_rows (sight_of [] (Some star)) lo hi left right) (there ∷ []) (sym c.in-None.is ∙ c.ends_refusal.ensures)
    ∙ seen-by (λ o l r. first_of (edge_rows c.args.chunk c.args.a c.args.b l r ++ (flip_rows (sight_of bands o) lo hi l r ++ there_row l r (is_neighbour (apex_or r) (spokes_in (lent (apex_or l)))) ∷ []))) lent lo hi star left right shown
    (c.sides_at-sides.ensures.left ∙ ap (λ n. side_to n star.spokes) c.max.ensures)
    (c.sides_at-sides.ensures.right ∙ ap (λ n. side_from n star.spokes) c.max.ensures)))

pub returns-in_default-clause-value : goal.returns-in_default-clause-value
returns-in_default-clause-value g c = λ bands.
    let lent = g.R.Rings.lent c.args.r.now in
    let lo = min c.args.a c.args.b in
    let hi = max c.args.a c.args.b in
    let away = there_row None None (is_neighbour (apex_or None) (spokes_in (lent (apex_or None)))) in
    no-edge c.args.chunk c.args.a c.args.b (flip_rows (sight_of bands None) lo hi None None ++ away ∷ [])
    ∙ unseen (λ o l r. first_of (edge_rows c.args.chunk c.args.a c.args.b l r ++ (flip_rows (sight_of bands o) lo hi l r ++ there_row l r (is_neighbour (apex_or r) (spokes_in (lent (apex_or l)))) ∷ []))) lent lo hi (ap lent (sym c.min.ensures) ∙ lent-none c.ring.result (lent c.min.result) c.ring.ensures c.in_default.is)

pub returns-in-Some-ends_refusal-clause-on_mesh : goal.returns-in-Some-ends_refusal-clause-on_mesh
returns-in-Some-ends_refusal-clause-on_mesh g c = λ m ok ends apex. returns-in-Some-ends_refusal-clause-value g c [] ∙ judged_is_first_failing m (g.R.Rings.lent c.args.r.now) [] c.args.chunk (Flip c.args.a c.args.b) ok tt ends.0 ends.1 apex

pub returns-in-None-clause-on_mesh : goal.returns-in-None-clause-on_mesh
returns-in-None-clause-on_mesh g c = λ m ok ends apex. returns-in-None-clause-value g c [] ∙ judged_is_first_failing m (g.R.Rings.lent c.args.r.now) [] c.args.chunk (Flip c.args.a c.args.b) ok tt ends.0 ends.1 apex

pub returns-in_default-clause-on_mesh : goal.returns-in_default-clause-on_mesh
returns-in_default-clause-on_mesh g c = λ m ok ends apex. returns-in_default-clause-value g c [] ∙ judged_is_first_failing m (g.R.Rings.lent c.args.r.now) [] c.args.chunk (Flip c.args.a c.args.b) ok tt ends.0 ends.1 apex
