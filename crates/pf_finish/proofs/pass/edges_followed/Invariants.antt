use Rattle.std.proofs.Common.{◌≡◌, ◌<◌, ℕ, [], get_or}
use Rattle.std.specs.Prelude.{None}
use Rattle.pf_model.specs.Lengths.{edge_of}
use Rattle.pf_holder.specs.Facts.{LendsAll, mesh_alone}
use Rattle.pf_finish.specs.Seen.{IsSettled}
use Rattle.pf_finish.specs.Covers.{IsWorkStep}
use Rattle.pf_finish.proofs.pass.edges_followed.Given as goal

abbrev pub invariant-found : goal.invariant-found
invariant-found g l =
    let m = g.H.Holder in
    m.same l.fn.h l.h
    × ((m.pairs l.h ≡ []) × (m.unborn l.h ≡ None) × (m.owed l.h ≡ []))
    × LendsAll (g.H.Rings.lent l.h) (m.pairs l.h)
    × IsWorkStep (m.opening l.fn.h) (m.allowance l.fn.h) (m.entries l.fn.h) l.fn.end (m.allowance l.h) (m.entries l.h) l.end
    × (m.allowance l.h ≡ m.allowance l.fn.h → (k d : ℕ) → k < l.x-index → IsSettled (mesh_alone (m.opening l.fn.h) (m.entries l.fn.h)) (edge_of l.n (get_or l.found k d)))
