use Rattle.std.proofs.Common.{◌≡◌, []}
use Rattle.std.specs.Prelude.{None}
use Rattle.pf_rules.specs.Lengths.{span_value}
use Rattle.pf_holder.specs.Facts.{LendsAll, mesh_alone}
use Rattle.pf_finish.proofs.Walking.{IsAt, moves_left}
use Rattle.pf_finish.proofs.edges.walk_end.Given as goal

abbrev pub invariant-walk : goal.invariant-walk
invariant-walk g l =
    let m = g.H.Holder in
    m.same l.fn.h l.h
    × ((m.pairs l.h ≡ []) × (m.unborn l.h ≡ None) × (m.owed l.h ≡ []))
    × LendsAll (g.H.Rings.lent l.h) (m.pairs l.h)
    × ((m.entries l.h ≡ m.entries l.fn.h) × (m.allowance l.h ≡ m.allowance l.fn.h))
    × IsAt (mesh_alone (m.opening l.fn.h) (m.entries l.fn.h)) (span_value l.fn.e) (span_value l.at) l.look

abbrev pub decreases-walk : goal.decreases-walk
decreases-walk g l = moves_left (mesh_alone (g.H.Holder.opening l.fn.h) (g.H.Holder.entries l.fn.h)) (span_value l.at)
