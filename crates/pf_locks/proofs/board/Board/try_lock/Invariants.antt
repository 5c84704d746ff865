use Rattle.pf_locks.specs.Told.{no_entry}
use Rattle.pf_locks.proofs.board.Board.try_lock.Given as goal

abbrev pub ghosts-try_word : goal.ghosts-try_word
ghosts-try_word a = record { opening = a.self.now.table.shared.key; entry = no_entry; number = 0; share = 0 }
