use Rattle.std.proofs.Common.{◌≡◌, ◌<◌, ◌≤◌, ℕ, []}
use Rattle.std.specs.Prelude.{None}
use Rattle.pf_holder.specs.Facts.{LendsAll, mesh_alone}
use Rattle.pf_finish.specs.Covers.{IsWorkStep, IsSettledAt}
use Rattle.pf_finish.proofs.pass.new_followed.Given as goal

abbrev pub invariant-new : goal.invariant-new
invariant-new g l =
    let m = g.H.Holder in
    m.same l.fn.h l.h
    × ((m.pairs l.h ≡ []) × (m.unborn l.h ≡ None) × (m.owed l.h ≡ []))
    × LendsAll (g.H.Rings.lent l.h) (m.pairs l.h)
    × IsWorkStep (m.opening l.fn.h) (m.allowance l.fn.h) (m.entries l.fn.h) l.fn.end (m.allowance l.h) (m.entries l.h) l.end
    × (m.allowance l.h ≡ m.allowance l.fn.h → (k : ℕ) → (m.opening l.fn.h).mesh.first_new ≤ k → k < l.n → IsSettledAt (mesh_alone (m.opening l.fn.h) (m.entries l.fn.h)) k)
