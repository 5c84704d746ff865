use Rattle.std.proofs.Common.{◌≡◌, ◌++◌, ◌∷◌, [], All, sym, ◌∙◌, ap, subst, arith}
use Rattle.std.specs.Prelude.{◌≤◌, min, max}
use Rattle.std.proofs.lemmas.List.Elements.{All-push}
use Rattle.pf_model.specs.Lengths.{Edge}
use Rattle.pf_edge_list.specs.Edges.{IsListed, sided_edge}
use Rattle.rest_tests.proofs.tests.listed_edges.Goals as goal

pub loop-a-preserved : goal.loop-a-preserved
loop-a-preserved c =
    let table = c.args.table.now.sides in
    let spot = c.locate.ensures in
    let edge = c.locate.result.edge in
    let same = spot.edge ∙ c.span_of.ensures.value in
    let lower = ap (λ (e : Edge). e.lo) same in
    let upper = ap (λ (e : Edge). e.hi) same in
    let sorted : edge.span.lo ≤ edge.span.hi = omega (arith, lower, upper) in
    subst (λ l. All (IsListed table) l) (sym c.in_ok-push.ensures.items) (All-push (IsListed table) c.loop-a.list.items edge c.loop-a.invariant record { sided = spot.sided; sorted = sorted })
