-- The seats of a crew.
use Rattle.std.specs.Prelude.{◌≡◌, ℕ, ◌+◌, ◌-◌, List, [], ◌∷◌, None}
use Rattle.atomic_table.specs.Seated.{TableId}
use Rattle.pf_core_model.specs.Lists.{counting}
use Rattle.pf_core_model.specs.Core.{Opening}
use Rattle.pf_locks.specs.declared.seat.BoardSeat.{BoardSeat}
use Rattle.pf_locks.specs.Seats.{IsSeat}
use Rattle.pf_workers.specs.Shares.{share_of, shares_from}

-- a seat of the board that holds nothing, with these numbers and this allowance
pub record IsIdleSeat (id : TableId) (o : Opening) (ks : List ℕ) (share : ℕ) (s : BoardSeat) : Type 0 where
  pub board : s.seat.table_id ≡ id
  pub seat : IsSeat o s
  pub numbers : s.seat.me.0.numbers ≡ ks
  pub allowance : s.seat.me.0.allowance ≡ share
  pub nothing : s.seat.me.0.held ≡ []
  pub clear : s.seat.me.0.unborn ≡ None

-- the seat of a worker: its number alone, and its share
abbrev pub IsWorker : TableId → Opening → ℕ → ℕ → ℕ → BoardSeat → Type 0
IsWorker id o budget workers worker s = IsIdleSeat id o (worker ∷ []) (share_of budget workers worker) s

-- the first seat, while the seats of the workers from this one on are not split off: it has their numbers and shares beside its own
abbrev pub IsFirst : TableId → Opening → ℕ → ℕ → ℕ → BoardSeat → Type 0
IsFirst id o budget workers next s = IsIdleSeat id o (0 ∷ counting next (workers - next)) (share_of budget workers 0 + shares_from budget workers next (workers - next)) s
