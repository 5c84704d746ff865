use Rattle.pf_edges.specs.Table.{side_at}
use Rattle.pf_edges.proofs.TableSteps.{removed-three}
use Rattle.pf_edges.proofs.table.remove_edges.Goals as goal

pub returns-clause-sides : goal.returns-clause-sides
returns-clause-sides c = λ p q.
    let s1 = c.remove_unless.ensures.sides p q in
    let s2 = c.remove_unless-2.ensures.sides p q in
    let s3 = c.remove_unless-3.ensures.sides p q in
    rw (s3, s2, s1) (removed-three c.args.t c.args.new.now p q (side_at c.args.sides.now p q))
