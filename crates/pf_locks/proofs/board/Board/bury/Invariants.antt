use Rattle.pf_locks.specs.Told.{no_entry}
use Rattle.pf_locks.proofs.board.Board.bury.Given as goal

abbrev pub ghosts-bury_word : goal.ghosts-bury_word
ghosts-bury_word a = record { opening = a.self.now.table.shared.key; entry = no_entry; number = 0; share = 0 }
