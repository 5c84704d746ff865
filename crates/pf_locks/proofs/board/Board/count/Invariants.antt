use Rattle.pf_locks.specs.Told.{no_entry}
use Rattle.pf_locks.proofs.board.Board.count.Given as goal

abbrev pub ghosts-load_note : goal.ghosts-load_note
ghosts-load_note a = record { opening = a.self.now.table.shared.key; entry = no_entry; number = 0; share = 0 }

abbrev pub ghosts-load_refusal : goal.ghosts-load_refusal
ghosts-load_refusal a = record { opening = a.self.now.table.shared.key; entry = record { ticket = 0; chunk = a.q.chunk; op = a.q.op }; number = 0; share = 0 }
