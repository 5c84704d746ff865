-- A seat of a board between two tries.
use Rattle.std.specs.Prelude.{◌≡◌, [], None}
use Rattle.pf_locks.specs.declared.board.Board.{Board}
use Rattle.pf_locks.specs.declared.seat.BoardSeat.{BoardSeat}
use Rattle.pf_locks.specs.Seats.{IsSeat}

-- it is of this board, and holds nothing
pub record IsAtRest (b : Board) (s : BoardSeat) : Type 0 where
  pub board : s.seat.table_id ≡ b.table.shared.table_id
  pub seat : IsSeat b.table.shared.key s
  pub nothing : s.seat.me.0.held ≡ []
  pub clear : s.seat.me.0.unborn ≡ None
