use Rattle.std.proofs.Common.{◌∙◌, [], ◌∷◌, sym, ap}
use Rattle.pf_model.specs.Clauses.{first_of}
use Rattle.pf_model.specs.Mesh.{is_edge}
use Rattle.pf_model.specs.Rows.{apex_or, flip_rows, there_row}
use Rattle.pf_model.specs.Conditions.{flip_clauses_at}
use Rattle.pf_rules.proofs.Firsts.{first-before, first-after, first-last}
use Rattle.pf_judge.proofs.SpokesShown.{shown-point}
use Rattle.pf_judge.proofs.conditions.flip_alone.Goals as goal

pub returns-in-Some : goal.returns-in-Some
returns-in-Some c = λ m s f.
    let l = c.args.edge_sides.left in
    let r = c.args.edge_sides.right in
    let told = c.flip_refusal-refused.ensures m
    (c.point.ensures.value ∙ shown-point c.args.table.now.sides c.args.table.now.nodes.items m s c.args.lo)
    (c.point-2.ensures.value ∙ shown-point c.args.table.now.sides c.args.table.now.nodes.items m s c.args.hi)
    (c.apex_point.ensures.value m s)
    (c.apex_point-2.ensures.value m s)
    in
    first-before (flip_rows m c.args.lo c.args.hi l r) (there_row l r (is_edge m.tris (apex_or l) (apex_or r)) ∷ []) c.in-Some.cond (sym c.in-Some.is ∙ told)
    ∙ (λ i. first_of (flip_clauses_at m c.args.lo c.args.hi (f.on_left i) (f.on_right i)))

pub returns-in-None : goal.returns-in-None
returns-in-None c = λ m s f.
    let l = c.args.edge_sides.left in
    let r = c.args.edge_sides.right in
    let told = c.flip_refusal-refused.ensures m
    (c.point.ensures.value ∙ shown-point c.args.table.now.sides c.args.table.now.nodes.items m s c.args.lo)
    (c.point-2.ensures.value ∙ shown-point c.args.table.now.sides c.args.table.now.nodes.items m s c.args.hi)
    (c.apex_point.ensures.value m s)
    (c.apex_point-2.ensures.value m s)
    in
    let last = there_row l r (is_edge m.tris (apex_or l) (apex_or r)) in
    (c.there_refusal.ensures ∙ ap (there_row l r) (c.is_there.ensures m s))
    ∙ (first-last last
    ∙ (first-after (flip_rows m c.args.lo c.args.hi l r) (last ∷ []) (sym c.in-None.is ∙ told)
    ∙ (λ i. first_of (flip_clauses_at m c.args.lo c.args.hi (f.on_left i) (f.on_right i)))))
