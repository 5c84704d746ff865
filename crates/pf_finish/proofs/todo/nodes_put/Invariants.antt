use Rattle.std.proofs.Common.{◌≡◌, []}
use Rattle.std.specs.Prelude.{None}
use Rattle.pf_holder.specs.Facts.{LendsAll}
use Rattle.pf_finish.proofs.todo.nodes_put.Given as goal

abbrev pub invariant-names : goal.invariant-names
invariant-names g l =
    let m = g.H.Holder in
    m.same l.fn.h l.h
    × ((m.pairs l.h ≡ []) × (m.unborn l.h ≡ None) × (m.owed l.h ≡ []))
    × LendsAll (g.H.Rings.lent l.h) (m.pairs l.h)
    × ((m.entries l.h ≡ m.entries l.fn.h) × (m.allowance l.h ≡ m.allowance l.fn.h))
