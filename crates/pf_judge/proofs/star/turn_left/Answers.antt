use Rattle.std.proofs.Common.{inl, inr, arith}
use Rattle.pf_judge.proofs.StarFan.{left-open, left-step, left-ends}
use Rattle.pf_judge.proofs.star.turn_left.Goals as goal

pub returns-in_default-clause-found : goal.returns-in_default-clause-found
returns-in_default-clause-found c = λ m ok s e t. left-open m ok c.args.u c.turns.found.items c.args.ends.first c.turns.right (c.turns.invariant.found m ok s t) (c.in_default.ensures.found m c.args.u ok s c.side.ensures)

pub turns-preserved : goal.turns-preserved
turns-preserved c = record {
  found = λ m ok s t. left-step m ok c.args.u c.turns.found.items c.put_spoke.new.spokes.items c.args.ends.first c.turns.right c.in-Some.spoke (c.turns.invariant.found m ok s t) c.if-right-first.true (c.in-Some.ensures.found m c.args.u ok s c.side.ensures) c.put_spoke.ensures.items;
  spots = λ range begun. c.put_spoke.ensures.spots (c.in-Some.ensures.spots range) (c.turns.invariant.spots range begun);
}

pub returns-else-right-first-clause-found : goal.returns-else-right-first-clause-found
returns-else-right-first-clause-found c = λ m ok s e t. left-ends m ok c.args.u c.turns.found.items c.args.ends.first c.turns.right c.args.most (c.turns.invariant.found m ok s t) e (inr c.if-right-first.false)

pub returns-after-turns-clause-found : goal.returns-after-turns-clause-found
returns-after-turns-clause-found c = λ m ok s e t. left-ends m ok c.args.u c.turns.found.items c.args.ends.first c.turns.right c.args.most (c.turns.invariant.found m ok s t) e (inl (let k = c.turns-test.false in let q = c.len.ensures.value in omega arith))
