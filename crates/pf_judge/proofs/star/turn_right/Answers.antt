use Rattle.std.proofs.Common.{sym, inl, inr, arith}
use Rattle.pf_judge.proofs.StarFan.{right-open, right-step, right-ends}
use Rattle.pf_judge.proofs.star.turn_right.Goals as goal

pub returns-in_default-clause-found : goal.returns-in_default-clause-found
returns-in_default-clause-found c = λ m ok s e t. right-open m ok c.args.u c.turns.found.items c.turns.left c.args.ends.last (c.turns.invariant.found m ok s t) (c.in_default.ensures.found m c.args.u ok s c.side.ensures)

pub turns-preserved : goal.turns-preserved
turns-preserved c = record {
  found = λ m ok s t. right-step m ok c.args.u c.turns.found.items c.put_spoke.new.spokes.items c.turns.left c.args.ends.last c.in-Some.spoke (c.turns.invariant.found m ok s t) (λ q. c.if-left-last.true (sym q)) (c.in-Some.ensures.found m c.args.u ok s c.side.ensures) c.put_spoke.ensures.items;
  spots = λ range begun. c.put_spoke.ensures.spots (c.in-Some.ensures.spots range) (c.turns.invariant.spots range begun);
}

pub returns-else-left-last-clause-found : goal.returns-else-left-last-clause-found
returns-else-left-last-clause-found c = λ m ok s e t. right-ends m ok c.args.u c.turns.found.items c.turns.left c.args.ends.last c.args.most (c.turns.invariant.found m ok s t) e (inr (sym c.if-left-last.false))

pub returns-after-turns-clause-found : goal.returns-after-turns-clause-found
returns-after-turns-clause-found c = λ m ok s e t. right-ends m ok c.args.u c.turns.found.items c.turns.left c.args.ends.last c.args.most (c.turns.invariant.found m ok s t) e (inl (let k = c.turns-test.false in let q = c.len.ensures.value in omega arith))
