use Rattle.std.proofs.Common.{◌≡◌, []}
use Rattle.std.specs.Prelude.{None}
use Rattle.pf_holder.specs.Facts.{LendsAll}
use Rattle.pf_finish.specs.Covers.{IsWorkStep}
use Rattle.pf_finish.proofs.pass.worked_off.Given as goal

abbrev pub invariant-turns : goal.invariant-turns
invariant-turns g l =
    let m = g.H.Holder in
    m.same l.fn.h l.h
    × ((m.pairs l.h ≡ []) × (m.unborn l.h ≡ None) × (m.owed l.h ≡ []))
    × LendsAll (g.H.Rings.lent l.h) (m.pairs l.h)
    × IsWorkStep (m.opening l.fn.h) (m.allowance l.fn.h) (m.entries l.fn.h) l.fn.end (m.allowance l.h) (m.entries l.h) l.end

abbrev pub decreases-turns : goal.decreases-turns
decreases-turns g l = g.H.Holder.allowance l.h
