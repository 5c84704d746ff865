use Rattle.std.proofs.Common.{◌≡◌, []}
use Rattle.std.specs.Prelude.{None}
use Rattle.pf_holder.specs.Facts.{LendsAll}
use Rattle.pf_finish.specs.Done.{HasWorkedOff}
use Rattle.pf_finish.specs.Covers.{Covers}
use Rattle.pf_finish.proofs.pass.passes_made.Given as goal

abbrev pub invariant-passes : goal.invariant-passes
invariant-passes g l =
    let m = g.H.Holder in
    m.same l.fn.h l.h
    × ((m.pairs l.h ≡ []) × (m.unborn l.h ≡ None) × (m.owed l.h ≡ []))
    × LendsAll (g.H.Rings.lent l.h) (m.pairs l.h)
    × HasWorkedOff (m.opening l.fn.h) (m.allowance l.fn.h) (m.entries l.fn.h) (m.allowance l.h) (m.entries l.h)
    × Covers (m.opening l.fn.h) l.live (m.entries l.h) l.end

abbrev pub decreases-passes : goal.decreases-passes
decreases-passes g l = g.H.Holder.allowance l.h
