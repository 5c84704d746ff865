use Rattle.std.proofs.Common.{◌≡◌, []}
use Rattle.std.specs.Prelude.{None}
use Rattle.pf_holder.specs.Facts.{LendsAll}
use Rattle.board_speed.proofs.try_all.Given as goal

abbrev pub invariant-tries : goal.invariant-tries
invariant-tries g l =
    g.H.Holder.same l.initial.h l.h
    × ((g.H.Holder.pairs l.h ≡ []) × (g.H.Holder.unborn l.h ≡ None) × (g.H.Holder.owed l.h ≡ []))
    × LendsAll (g.H.Rings.lent l.h) (g.H.Holder.pairs l.h)
