use Rattle.std.proofs.Common.{◌≡◌, ◌∙◌, arith, length, subst, sym}
use Rattle.std.specs.Prelude.{All}
use Rattle.std.proofs.lemmas.List.Elements.{All-nil}
use Rattle.pf_model.specs.Stars.{spokes_of}
use Rattle.pf_rules.specs.Star.{AreSomeOf}
use Rattle.pf_spokes.specs.Spokes.{HasSpots}
use Rattle.pf_judge.proofs.StarFan.{counted}
use Rattle.pf_rest.proofs.StarAround.{part-nil, part-all}
use Rattle.pf_rest.proofs.around.gather_star.Goals as goal

pub returns-clause-found : goal.returns-clause-found
returns-clause-found c = λ m ok s told.
    let found = c.gather_higher.new.star.items in
    let begun = subst (λ l. AreSomeOf (spokes_of m c.args.u) l) (sym c.clear.ensures) (part-nil (spokes_of m c.args.u)) in
    let part = c.gather_higher.ensures.part m ok s (c.gather_lower.ensures.part m ok s begun) in
    let most = counted c.args.table.now.sides c.args.table.now.nodes.items m s c.args.u c.triangles-most.result c.triangles-most.ensures in
    let as_many : length (spokes_of m c.args.u) ≡ length found = most ∙ (sym c.if-len-most.false ∙ c.len.ensures.value) in
    let whole = part-all m ok c.args.u found part as_many in
    record {
      all = whole;
      few = omega (arith, most, c.if-most-gt-MOST_SPOKES.false);
      fan = c.is_round.ensures m c.args.u ok (c.as_slice.ensures.value ∙ whole) told;
    }

pub returns-then-len-most-clause-spots : goal.returns-then-len-most-clause-spots
returns-then-len-most-clause-spots c = λ range.
    c.gather_higher.ensures.spots range (c.gather_lower.ensures.spots range (subst (λ l. All HasSpots l) (sym c.clear.ensures) (All-nil HasSpots)))

pub returns-clause-spots : goal.returns-clause-spots
returns-clause-spots c = λ range.
    c.gather_higher.ensures.spots range (c.gather_lower.ensures.spots range (subst (λ l. All HasSpots l) (sym c.clear.ensures) (All-nil HasSpots)))
