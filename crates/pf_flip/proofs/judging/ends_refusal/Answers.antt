use Rattle.std.proofs.Common.{[], sym, ◌∙◌}
use Rattle.std.specs.Prelude.{Some, min, max}
use Rattle.pf_model.specs.Clauses.{first_of}
use Rattle.pf_model.specs.Mesh.{Undivided}
use Rattle.pf_model.specs.Rows.{edge_rows, flip_rows}
use Rattle.pf_star_model.specs.Lent.{sight_of}
use Rattle.pf_rules.proofs.Firsts.{first-before, first-after}
use Rattle.pf_flip.proofs.judging.ends_refusal.Goals as goal

pub returns-in-Some : goal.returns-in-Some
returns-in-Some c =
    let l = c.args.sides.left in
    let r = c.args.sides.right in
    first-before (edge_rows c.args.chunk c.args.a c.args.b l r) (flip_rows (sight_of [] (Some c.args.star.now)) (min c.args.a c.args.b) (max c.args.a c.args.b) l r) c.in-Some.cond (sym c.in-Some.is ∙ c.edge_refusal.ensures)

pub returns-in-None : goal.returns-in-None
returns-in-None c =
    let w : Undivided = sight_of [] (Some c.args.star.now) in
    let l = c.args.sides.left in
    let r = c.args.sides.right in
    c.flip_refusal.ensures w (c.placed.ensures.at []) (c.placed-in-None.ensures.at []) (c.apex_place.ensures.value []) (c.apex_place-in-None.ensures.value [])
    ∙ ((λ i. first_of (flip_rows w ((c.placed.ensures.name ∙ c.min.ensures) i) ((c.placed-in-None.ensures.name ∙ c.max.ensures) i) l r))
    ∙ first-after (edge_rows c.args.chunk c.args.a c.args.b l r) (flip_rows w (min c.args.a c.args.b) (max c.args.a c.args.b) l r) (sym c.in-None.is ∙ c.edge_refusal.ensures))
