use Rattle.std.proofs.Common.{sym, ◌∙◌, refl}
use Rattle.std.specs.Prelude.{Some, min, max}
use Rattle.pf_model.specs.Clauses.{first_of}
use Rattle.pf_model.specs.Mesh.{Undivided}
use Rattle.pf_model.specs.Rows.{edge_rows, bisect_rows}
use Rattle.pf_star_model.specs.Lent.{sight_of}
use Rattle.pf_rules.proofs.Firsts.{first-before, first-after}
use Rattle.pf_bisect.proofs.judging.star_refusal.Goals as goal

pub returns-in-Some : goal.returns-in-Some
returns-in-Some c =
    let l = c.args.sides.left in
    let r = c.args.sides.right in
    first-before (edge_rows c.args.chunk c.args.a c.args.b l r) (bisect_rows (sight_of c.args.bands.now (Some c.args.star.now)) (min c.args.a c.args.b) (max c.args.a c.args.b) l r) c.in-Some.cond (sym c.in-Some.is ∙ c.edge_refusal.ensures)

pub returns-in-None : goal.returns-in-None
returns-in-None c =
    let bands = c.args.bands.now in
    let w : Undivided = sight_of bands (Some c.args.star.now) in
    let l = c.args.sides.left in
    let r = c.args.sides.right in
    c.bisect_refusal.ensures w refl (c.placed.ensures.at bands) (c.placed-in-None.ensures.at bands) (c.apex_place.ensures.value bands) (c.apex_place-in-None.ensures.value bands)
    ∙ ((λ i. first_of (bisect_rows w ((c.placed.ensures.name ∙ c.min.ensures) i) ((c.placed-in-None.ensures.name ∙ c.max.ensures) i) l r))
    ∙ first-after (edge_rows c.args.chunk c.args.a c.args.b l r) (bisect_rows w (min c.args.a c.args.b) (max c.args.a c.args.b) l r) (sym c.in-None.is ∙ c.edge_refusal.ensures))
