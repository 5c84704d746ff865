use Rattle.std.proofs.Common.{[], ◌++◌, sym, ◌∙◌, ap}
use Rattle.std.specs.Prelude.{Some, None, min, max}
use Rattle.pf_model.specs.Clauses.{first_of}
use Rattle.pf_model.specs.Rows.{edge_rows, flip_rows}
use Rattle.pf_star_model.specs.Lent.{sight_of, side_to, side_from}
use Rattle.pf_star_model.proofs.Judging.{ends_judged}
use Rattle.pf_rings.proofs.Lent.{lent-star, lent-none}
use Rattle.pf_sight.proofs.Seen.{seen-by, unseen, no-edge}
use Rattle.pf_flip.proofs.judging.judge_ends.Goals as goal

pub returns-in-Some-clause-value : goal.returns-in-Some-clause-value
returns-in-Some-clause-value g c =
    let lent = g.R.Rings.lent c.args.r.now in
    let lo = min c.args.a c.args.b in
    let hi = max c.args.a c.args.b in
    let star = c.star-star.result.now in
    let shown = ap lent (sym c.min.ensures) ∙ (lent-star c.ring.result c.in-Some.ring (lent c.min.result) c.ring.ensures c.in-Some.is ∙ ap (λ s. Some s) (sym c.star-star.ensures)) in
    c.ends_refusal.ensures
    ∙ seen-by (λ o l r. first_of (edge_rows c.args.chunk c.args.a c.args.b l r ++ flip_rows (sight_of [] o) lo hi l r)) lent lo hi star c.sides_at.result.left c.sides_at.result.right shown
    (c.sides_at.ensures.left ∙ ap (λ n. side_to n star.spokes) c.max.ensures)
    (c.sides_at.ensures.right ∙ ap (λ n. side_from n star.spokes) c.max.ensures)

pub returns-in-None-clause-value : goal.returns-in-None-clause-value
returns-in-None-clause-value g c =
    let lent = g.R.Rings.lent c.args.r.now in
    let lo = min c.args.a c.args.b in
    let hi = max c.args.a c.args.b in
    no-edge c.args.chunk c.args.a c.args.b (flip_rows (sight_of [] None) lo hi None None)
    ∙ unseen (λ o l r. first_of (edge_rows c.args.chunk c.args.a c.args.b l r ++ flip_rows (sight_of [] o) lo hi l r)) lent lo hi (ap lent (sym c.min.ensures) ∙ lent-none c.ring.result (lent c.min.result) c.ring.ensures c.in-None.is)

pub returns-in-Some-clause-on_mesh : goal.returns-in-Some-clause-on_mesh
returns-in-Some-clause-on_mesh g c = λ m ok a b. returns-in-Some-clause-value g c ∙ ends_judged m ok (g.R.Rings.lent c.args.r.now) c.args.chunk c.args.a c.args.b a b

pub returns-in-None-clause-on_mesh : goal.returns-in-None-clause-on_mesh
returns-in-None-clause-on_mesh g c = λ m ok a b. returns-in-None-clause-value g c ∙ ends_judged m ok (g.R.Rings.lent c.args.r.now) c.args.chunk c.args.a c.args.b a b
