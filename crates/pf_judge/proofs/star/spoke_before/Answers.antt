use Rattle.std.proofs.Common.{sym, ◌∙◌, subst}
use Rattle.pf_geom.specs.Plane.{IsInRange}
use Rattle.pf_judge.proofs.SpokesShown.{spoke-before, spoke-before_not, spot-in_range}
use Rattle.pf_judge.proofs.star.spoke_before.Goals as goal

pub returns-in-Some-clause-found : goal.returns-in-Some-clause-found
returns-in-Some-clause-found c = λ m u ok s side. spoke-before c.args.table.now.sides c.args.table.now.nodes.items m ok s u c.args.left c.in-Some.side.apex c.in-Some.side.owner c.spot.result c.spot-in-Some.result (sym (c.in-Some.is) ∙ side) c.spot.ensures c.spot-in-Some.ensures

pub returns-in-None-clause-found : goal.returns-in-None-clause-found
returns-in-None-clause-found c = λ m u ok s side. spoke-before_not c.args.table.now.sides c.args.table.now.nodes.items m ok s u c.args.left (sym (c.in-None.is) ∙ side)

pub returns-in-Some-clause-spots : goal.returns-in-Some-clause-spots
returns-in-Some-clause-spots c = λ range.
    let nodes = c.args.table.now.nodes.items in
    record {
      right = subst (λ p. IsInRange p) (sym c.spot.ensures) (spot-in_range nodes c.in-Some.side.apex range);
      left = subst (λ p. IsInRange p) (sym c.spot-in-Some.ensures) (spot-in_range nodes c.args.left range);
    }
