use Rattle.std.proofs.Common.{◌≡◌, true, length, refl, sym, ◌∙◌, ap, subst}
use Rattle.pf_model.specs.declared.Op.TheVariants.{Contract}
use Rattle.pf_model.specs.Clauses.{first_of}
use Rattle.pf_model.specs.Stars.{is_neighbour, spokes_of}
use Rattle.pf_model.specs.Conditions.{first_failing}
use Rattle.pf_rules.specs.Contract.{AreAround, IsShape, star_clauses}
use Rattle.pf_rules.specs.EdgeSides.{AreEdgeSides}
use Rattle.pf_rules.proofs.ContractReads.{edge-there, by-star, neighbour-edge}
use Rattle.pf_rest.proofs.short.onto_condition.Goals as goal

pub returns : goal.returns
returns c = λ m ok s b edge es star shape around clear.
    let u = c.args.u in
    let v = c.args.v in
    let items = c.args.lists.now.star.items in
    let edge_sides : AreEdgeSides m.tris u v c.edge_sides_from-edge_sides.result = record {
      on_left = c.edge_sides_from-edge_sides.ensures.left c.args.table.now.sides c.requires.sided edge ∙ s.triangles.sides u v;
      on_right = c.edge_sides_from-edge_sides.ensures.right c.args.table.now.sides c.requires.sided edge ∙ s.triangles.sides v u;
    } in
    let pass = c.in_default.ensures m edge_sides in
    let there = edge-there m c.acting_chunk.result u v pass in
    let at : c.deref.result.now ≡ items = c.deref.ensures.0 in
    let beside : is_neighbour v c.deref.result.now ≡ true = ap (is_neighbour v) (at ∙ star.all) ∙ (neighbour-edge m ok v u ∙ there) in
    let names : AreAround c.deref.result.now c.as_slice-names.result.now = subst (λ l. AreAround l c.as_slice-names.result.now) (sym at) (subst (λ l. AreAround items l) (sym c.as_slice-names.ensures.value) around) in
    c.shape_condition.ensures m u ok s b edge_sides (at ∙ star.all) (subst (λ l. IsShape m u l c.args.shape) (sym at) shape) (λ h. beside) names (c.crossing_link-link.ensures m u items ok es edge_sides clear (ap (is_neighbour v) star.all ∙ (neighbour-edge m ok v u ∙ there)) (subst (λ l. AreAround items l) (sym c.as_slice-names.ensures.value) around))
    ∙ (ap (λ l. first_of (star_clauses m u v l (spokes_of m v))) (at ∙ star.all)
    ∙ (by-star m c.acting_chunk.result u v pass (length (spokes_of m u)) refl star.few star.fan
    ∙ ap (λ chunk. first_failing m chunk (Contract u v)) (c.acting_chunk.ensures m s c.requires.sided)))
