-- A seat that holds nothing, and one that tried for the node 0.
use Rattle.std.specs.Prelude.{◌≡◌, ◌∷◌, [], Some, None}
use Rattle.pf_model.specs.Stars.{Star}
use Rattle.pf_core_model.specs.declared.view.View.{View}
use Rattle.pf_core_model.specs.Sharers.{sharers_in}
use Rattle.pf_holder.specs.declared.holder.Hold.{Hold}
use Rattle.pf_holder.specs.declared.holder.Hold.TheVariants.{Won, Lost, Dead, Never}
use Rattle.pf_locks.specs.declared.seat.BoardSeat.{BoardSeat}
use Rattle.pf_locks.specs.Lists.{list_in}

abbrev pub IsIdle : View → Type 0
IsIdle v = (v.held ≡ []) × (v.unborn ≡ None)

abbrev pub IsTried : BoardSeat → Hold → Type 0
IsTried s Won = ((star : Star) × (s.seat.me.0.held ≡ record { node = 0; star = Some star } ∷ []) × (list_in s.kept.items 0 ≡ sharers_in s.seat.me.0.chunks (Some star))) × (s.seat.me.0.unborn ≡ None)
IsTried s (Lost k) = IsIdle s.seat.me.0
IsTried s Dead = IsIdle s.seat.me.0
IsTried s Never = IsIdle s.seat.me.0
