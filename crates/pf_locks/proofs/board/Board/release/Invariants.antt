use Rattle.pf_locks.specs.Told.{no_entry}
use Rattle.pf_locks.proofs.board.Board.release.Given as goal

abbrev pub ghosts-free_word : goal.ghosts-free_word
ghosts-free_word a = record { opening = a.self.now.table.shared.key; entry = no_entry; number = 0; share = 0 }
