use Rattle.std.specs.Prelude.{slice_index}
use Rattle.pf_edges.specs.Table.{side_at}
use Rattle.pf_apply.proofs.OwnedSides.{owned-both}
use Rattle.pf_apply.proofs.tables.own.Goals as goal

pub returns-clause-sides : goal.returns-clause-sides
returns-clause-sides c = λ a b.
    let s1 = c.own_round.ensures.sides a b in
    let s2 = c.own_round-2.ensures.sides a b in
    rw (s2, s1) (owned-both (slice_index c.args.corners 0) (slice_index c.args.corners 1) (slice_index c.args.corners 2) c.args.owner a b (side_at c.args.sides.now a b))
