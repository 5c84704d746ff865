use Rattle.std.proofs.Common.{◌≡◌, ◌≤◌, []}
use Rattle.std.specs.Prelude.{None}
use Rattle.pf_holder.specs.Facts.{LendsAll}
use Rattle.pf_driver.specs.Visits.{HasGrown}
use Rattle.pf_driver.proofs.driving.later_turns.Given as goal

abbrev pub invariant-tasks : goal.invariant-tasks
invariant-tasks g l =
    let m = g.H.Holder in
    m.same l.fn.h l.h
    × ((m.pairs l.h ≡ []) × (m.unborn l.h ≡ None) × (m.owed l.h ≡ []))
    × LendsAll (g.H.Rings.lent l.h) (m.pairs l.h)
    × (m.seen_at l.fn.h ≤ m.seen_at l.h)
    × HasGrown (m.seen_at l.fn.h) (m.allowance l.fn.h) (m.entries l.fn.h) (m.seen_at l.h) (m.allowance l.h) (m.entries l.h)
