use Rattle.pf_locks.proofs.board.Board.commit.Given as goal

abbrev pub ghosts-draw : goal.ghosts-draw
ghosts-draw a = record { opening = a.self.now.table.shared.key; entry = record { ticket = 0; chunk = a.chunk; op = a.op }; number = 0; share = 0 }
