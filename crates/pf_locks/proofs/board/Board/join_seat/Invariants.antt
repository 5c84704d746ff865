use Rattle.pf_locks.specs.Told.{no_entry}
use Rattle.pf_locks.proofs.board.Board.join_seat.Given as goal

abbrev pub ghosts-look : goal.ghosts-look
ghosts-look a = record { opening = a.self.now.table.shared.key; entry = no_entry; number = 0; share = 0 }
