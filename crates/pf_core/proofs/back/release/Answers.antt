use Rattle.std.proofs.Common.{◌≡◌, ◌<◌, ◌+◌, ◌-◌, ◌∷◌, true, refl, sym, ap, ◌∙◌, set, arith}
use Rattle.std.specs.Prelude.{Option, map}
use Rattle.pf_model.specs.Stars.{Star}
use Rattle.pf_core.specs.declared.tables.Seat.{Seat}
use Rattle.pf_core.specs.Tables.{seat_at, less_held}
use Rattle.pf_core.specs.Gates.{can_release}
use Rattle.pf_core.proofs.Returning.{release_ignored, release_taken}
use Rattle.pf_core.proofs.back.release.Goals as goal

pub returns-then-not-is_releasable : goal.returns-then-not-is_releasable
returns-then-not-is_releasable c = release_ignored c.args.s.now c.args.a c.args.n
    ((λ i. can_release (sym c.deref.ensures.value i) (sym c.deref-2.ensures.value i) c.args.a c.args.n) ∙ sym c.is_releasable.ensures ∙ c.if-not-is_releasable.true)

pub returns : goal.returns
returns c = release_taken c.args.s.now _ c.args.a c.args.n
    ((λ i. can_release (sym c.deref.ensures.value i) (sym c.deref-2.ensures.value i) c.args.a c.args.n) ∙ sym c.is_releasable.ensures ∙ c.if-not-is_releasable.false)
    record { first_new = refl; chunks = refl; bands = refl } refl c.free_node.ensures c.count_star.ensures
