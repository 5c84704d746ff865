use Rattle.pf_edges.specs.Table.{side_at}
use Rattle.pf_apply.proofs.OwnedSides.{owned-round}
use Rattle.pf_apply.proofs.tables.own_round.Goals as goal

pub returns-clause-sides : goal.returns-clause-sides
returns-clause-sides c = λ a b.
    let s1 = c.own_side.ensures.sides a b in
    let s2 = c.own_side-2.ensures.sides a b in
    let s3 = c.own_side-3.ensures.sides a b in
    rw (s3, s2, s1) (owned-round c.args.p c.args.q c.args.z c.args.owner a b (side_at c.args.sides.now a b))
