use Rattle.pf_locks.specs.Told.{no_entry}
use Rattle.pf_locks.proofs.board.Board.part_seat.Given as goal

abbrev pub ghosts-part : goal.ghosts-part
ghosts-part a = record { opening = a.self.now.table.shared.key; entry = no_entry; number = a.number; share = a.share }
