use Rattle.std.proofs.Common.{◌≡◌, []}
use Rattle.std.specs.Prelude.{None}
use Rattle.pf_holder.specs.Facts.{LendsAll}
use Rattle.pf_finish.specs.Covers.{IsWorkStep}
use Rattle.pf_finish.specs.Waiting.{waiting}
use Rattle.pf_finish.proofs.pass.next_answered.Given as goal

abbrev pub invariant-edges : goal.invariant-edges
invariant-edges g l =
    let m = g.H.Holder in
    m.same l.fn.h l.h
    × ((m.pairs l.h ≡ []) × (m.unborn l.h ≡ None) × (m.owed l.h ≡ []))
    × LendsAll (g.H.Rings.lent l.h) (m.pairs l.h)
    × IsWorkStep (m.opening l.fn.h) (m.allowance l.fn.h) (m.entries l.fn.h) l.fn.end (m.allowance l.h) (m.entries l.h) l.end

abbrev pub decreases-edges : goal.decreases-edges
decreases-edges g l = waiting l.todo
