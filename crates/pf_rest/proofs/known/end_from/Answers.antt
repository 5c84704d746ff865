use Rattle.std.proofs.Common.{◌≡◌, ◌-◌, sym, ◌∙◌, ap, subst, refl, arith}
use Rattle.pf_model.specs.Wishes.{walked, terminal_of}
use Rattle.pf_rules.specs.Lengths.{span_value}
use Rattle.pf_edge_list.specs.Edges.{sided_edge}
use Rattle.pf_rest.specs.Rest.{IsEnd}
use Rattle.pf_rest.proofs.WalksLocated.{located-self, lead-none}
use Rattle.pf_rest.proofs.WalkSteps.{walked-on, walked-ends}
use Rattle.pf_rest.proofs.WalkEnds.{terminal-on, finite-same}
use Rattle.pf_rest.proofs.known.end_from.Goals as goal

pub walk-init : goal.walk-init
walk-init c = (c.requires.located, λ m s are finite. (ap (λ n. walked n m (sided_edge c.args.e.edge)) (c.len-most.ensures.len ∙ s.triangles.all), refl, lead-none m c.args.edges.now.list.items c.args.way.now.items (terminal_of m (sided_edge c.args.e.edge)) c.requires.empty))

pub returns-in-Some-clause-end : goal.returns-in-Some-clause-end
returns-in-Some-clause-end c = λ m ok s b are finite.
    let at = sided_edge c.walk.at.edge in
    subst (λ t. IsEnd m t c.in-Some.end) (c.walk.invariant.1 m s are finite).1 (c.in-Some.ensures m c.args.table.now.sides c.args.edges.now.list.items at c.walk.invariant.0 are)

pub returns-in-Some-clause-way : goal.returns-in-Some-clause-way
returns-in-Some-clause-way c = λ m s are finite. (c.walk.invariant.1 m s are finite).2

pub returns-in_default-next_longer-clause-end : goal.returns-in_default-next_longer-clause-end
returns-in_default-next_longer-clause-end c = λ m ok s b are finite.
    let at = sided_edge c.walk.at.edge in
    let stays = sym (c.in_default-next_longer.ensures m s c.walk.invariant.0.sided) in
    subst (λ t. IsEnd m t c.end_at.result) (sym (walked-ends c.walk.most m at stays) ∙ (c.walk.invariant.1 m s are finite).0) (c.end_at.ensures m ok s b c.walk.invariant.0.sided)

pub returns-in_default-next_longer-clause-way : goal.returns-in_default-next_longer-clause-way
returns-in_default-next_longer-clause-way c = λ m s are finite.
    let before = c.walk.invariant.1 m s are finite in
    c.in_ok-push_place.ensures m c.args.table.now.sides c.args.edges.now.list.items (sided_edge c.walk.at.edge) (terminal_of m (sided_edge c.args.e.edge)) c.walk.invariant.0 before.1 before.2

pub walk-preserved : goal.walk-preserved
walk-preserved c =
    let table = c.args.table.now.sides in
    let edges = c.args.edges.now.list.items in
    let spot = c.walk.invariant.0 in
    let next = span_value c.in-Some-next_longer.next in (
      located-self table edges next c.locate-at.result c.locate-at.ensures,
      λ m s are finite.
          let before = c.walk.invariant.1 m s are finite in
          let at = sided_edge c.walk.at.edge in
          let first = sided_edge c.args.e.edge in
          let move = sym (c.in-Some-next_longer.ensures m s spot.sided) in
          let reached = sym c.locate-at.ensures.edge in (
            subst (λ f. walked (c.walk.most - 1) m f ≡ terminal_of m first) reached (sym (walked-on c.walk.most m at next c.walk-test.true move) ∙ before.0),
            subst (λ f. terminal_of m f ≡ terminal_of m first) reached (terminal-on m at next (finite-same m first at finite before.1) move ∙ before.1),
            c.in_ok-push_place.ensures m table edges at (terminal_of m first) spot before.1 before.2,
          ),
    )

pub returns-clause-end : goal.returns-clause-end
returns-clause-end c = λ m ok s b are finite.
    let at = sided_edge c.walk.at.edge in
    let over : c.walk.most ≡ 0 = omega (arith, c.walk-test.false) in
    let reached : at ≡ terminal_of m (sided_edge c.args.e.edge) = subst (λ n. walked n m at ≡ terminal_of m (sided_edge c.args.e.edge)) over (c.walk.invariant.1 m s are finite).0 in
    subst (λ t. IsEnd m t c.end_at-2.result) reached (c.end_at-2.ensures m ok s b c.walk.invariant.0.sided)

pub returns-clause-way : goal.returns-clause-way
returns-clause-way c = λ m s are finite. (c.walk.invariant.1 m s are finite).2
