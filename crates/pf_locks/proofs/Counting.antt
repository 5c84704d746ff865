-- The copies of a board are counted, name by name.
use Rattle.std.proofs.Common.{◌≡◌, ℕ, Bool, true, false, cond, List, ◌∷◌, length, refl, sym, ap, ◌≢◌, ◌∙◌, ⊎_elim}
use Rattle.std.specs.Prelude.{Option, Some, None, is_some}
use Rattle.pf_model.specs.Mesh.{Undivided, point_of, place_of}
use Rattle.pf_model.specs.Conforming.{IsLive}
use Rattle.pf_model.specs.Stars.{Star, star_of, spokes_of}
use Rattle.pf_core_model.specs.declared.sharer.Sharer.{Sharer}
use Rattle.pf_core_model.specs.declared.view.View.{View}
use Rattle.pf_core_model.specs.Sharers.{sharers_in}
use Rattle.pf_core_model.proofs.Sharing.{none_due}
use Rattle.pf_core_model.specs.Core.{Opening, mesh_after}
use Rattle.pf_core_model.specs.Guards.{IsAlone}
use Rattle.pf_core_model.specs.Seats.{own_log}
use Rattle.pf_holder.specs.declared.holder.Hold.{Hold}
use Rattle.pf_holder.specs.declared.holder.Hold.TheVariants.{Won, Lost, Dead, Never}
use Rattle.pf_locks.specs.declared.seat.BoardSeat.{BoardSeat}
use Rattle.pf_locks.specs.Seats.{TellsTry, TellsAlone}
use Rattle.pf_locks.specs.Closes.{IsButFinds}

star_none : (m : Undivided) (n : ℕ) → (IsLive m n → ⊥) → star_of m n ≡ None
star_none m n h = go (is_some (point_of m.sites n)) h
  where
    go : (b : Bool) → (b ≡ true → ⊥) → cond {A = Option Star} b (Some record { node = n; at = place_of m n; spokes = spokes_of m n }) None ≡ None
    go true k = absurd (k refl)
    go false k = refl

pub none_of_dead : (m : Undivided) (chunks n : ℕ) → (IsLive m n → ⊥) → 0 ≡ length (sharers_in chunks (star_of m n))
none_of_dead m chunks n h = sym (ap (λ (x : Option Star). length (sharers_in chunks x)) (star_none m n h) ∙ ap (λ (l : List Sharer). length l) (none_due 0 chunks))

pub finds_on : (v w u : View) → IsButFinds v w → IsButFinds w u → IsButFinds v u
finds_on v w u h k = (k.0, k.1, k.2 ∙ ap (λ (x : View). record x { dead = k.0; never = k.1 }) h.2)

-- a node that isn't won by a seat that is alone isn't live
pub not_won : (o : Opening) (n : ℕ) (s t : BoardSeat) (h : Hold) → h ≢ Won → TellsTry o n s t h → TellsAlone o n s.seat.me.0 h → IsAlone s.seat.me.0
    → IsButFinds s.seat.me.0 t.seat.me.0 × (IsLive (mesh_after o (own_log s.seat.me.0)) n → ⊥)
not_won o n s t Won ne told gone alone = absurd (ne refl)
not_won o n s t (Lost k) ne told gone alone = absurd (told.0.3 alone)
not_won o n s t Dead ne told gone alone = ((n ∷ s.seat.me.0.dead, s.seat.me.0.never, told.0.2), gone)
not_won o n s t Never ne told gone alone =
    (⊎_elim (λ h. (s.seat.me.0.dead, n ∷ s.seat.me.0.never, h.1)) (λ h. (s.seat.me.0.dead, s.seat.me.0.never, h.1)) told.0.1, gone)
