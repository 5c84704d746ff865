use Rattle.pf_locks.specs.Told.{no_entry}
use Rattle.pf_locks.proofs.board.Board.birth.Given as goal

abbrev pub ghosts-bear : goal.ghosts-bear
ghosts-bear a = record { opening = a.self.now.table.shared.key; entry = no_entry; number = 0; share = 0 }
