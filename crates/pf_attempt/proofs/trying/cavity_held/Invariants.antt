use Rattle.std.proofs.Common.{◌≡◌, ◌≤◌, ◌-◌, length}
use Rattle.pf_holder.specs.Facts.{LendsAll}
use Rattle.pf_attempt.specs.Stages.{HoldsPart}
use Rattle.pf_attempt.proofs.trying.cavity_held.Given as goal

abbrev pub invariant-rest : goal.invariant-rest
invariant-rest g l =
    let m = g.H.Holder in
    m.same l.fn.h l.h
    × LendsAll (g.H.Rings.lent l.h) (m.pairs l.h)
    × ((m.unborn l.h ≡ m.unborn l.fn.h) × (m.owed l.h ≡ m.owed l.fn.h))
    × ((m.entries l.h ≡ m.entries l.fn.h) × (m.allowance l.h ≡ m.allowance l.fn.h) × (m.seen_at l.fn.h ≤ m.seen_at l.h))
    × HoldsPart (m.opening l.h).mesh.bands (m.pairs l.h) l.chunk l.op

abbrev pub decreases-rest : goal.decreases-rest
decreases-rest g l = 62 - length (g.H.Holder.pairs l.h)
