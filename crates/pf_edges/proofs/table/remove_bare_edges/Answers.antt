use Rattle.pf_edges.specs.Table.{side_at}
use Rattle.pf_edges.specs.TableSteps.{is_bare}
use Rattle.pf_edges.proofs.TableSteps.{bare-three}
use Rattle.pf_edges.proofs.table.remove_bare_edges.Goals as goal

pub returns-clause-sides : goal.returns-clause-sides
returns-clause-sides c = λ p q.
    let s1 = c.remove_bare.ensures.sides p q in
    let s2 = c.remove_bare-2.ensures.sides p q in
    let s3 = c.remove_bare-3.ensures.sides p q in
    rw (s3, s2, s1) (bare-three c.args.t p q (is_bare c.args.u c.args.v c.args.all p q) (side_at c.args.sides.now p q))
