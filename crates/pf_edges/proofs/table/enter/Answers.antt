use Rattle.pf_edges.specs.Table.{side_at}
use Rattle.pf_edges.proofs.Sides.{side_at-updates}
use Rattle.pf_edges.proofs.TableSteps.{side_with-is}
use Rattle.pf_edges.proofs.table.enter.Goals as goal

pub returns-clause-sides : goal.returns-clause-sides
returns-clause-sides c = λ p q.
    let u1 = rw c.unwrap.ensures at c.insert.ensures.updates in
    let u2 = rw c.unwrap-2.ensures at c.insert-2.ensures.updates in
    let u3 = rw c.unwrap-3.ensures at c.insert-3.ensures.updates in
    let s1 = side_at-updates c.args.sides.now c.insert.new.self _ _ _ u1 p q in
    let s2 = side_at-updates c.insert.new.self c.insert-2.new.self _ _ _ u2 p q in
    let s3 = side_at-updates c.insert-2.new.self c.insert-3.new.self _ _ _ u3 p q in
    rw (s3, s2, s1) (side_with-is c.args.t p q (side_at c.args.sides.now p q))
