-- The seats of a crew in hands, and the seat that is left of them.
use Rattle.std.specs.Prelude.{◌≡◌, ℕ, [], ◌∷◌, Bool, true, false, None}
use Rattle.atomic_table.specs.Seated.{TableId}
use Rattle.pf_core_model.specs.Core.{Opening}
use Rattle.pf_core_model.specs.Guards.{IsAlone}
use Rattle.pf_driver.specs.declared.driving.DriveEnd.{DriveEnd}
use Rattle.pf_driver.specs.declared.driving.DriveEnd.TheVariants.{Memory}
use Rattle.pf_locks.specs.declared.seat.BoardSeat.{BoardSeat}
use Rattle.pf_locks.specs.Seats.{IsSeat}
use Rattle.pf_workers.specs.Crew.{IsIdleSeat}

-- the seat of a worker with this number alone, and with some share
abbrev pub IsNumbered : TableId → Opening → ℕ → BoardSeat → Type 0
IsNumbered id o worker s = (share : ℕ) × IsIdleSeat id o (worker ∷ []) share s

-- a seat of the board with the numbers of all seats, which holds nothing
pub record IsLone (id : TableId) (o : Opening) (s : BoardSeat) : Type 0 where
  pub board : s.seat.table_id ≡ id
  pub seat : IsSeat o s
  pub alone : IsAlone s.seat.me.0
  pub nothing : s.seat.me.0.held ≡ []
  pub clear : s.seat.me.0.unborn ≡ None

-- memory was wanting
abbrev pub is_memory : DriveEnd → Bool
is_memory Memory = true
is_memory _ = false
