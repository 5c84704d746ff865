use Rattle.std.proofs.Common.{◌≡◌, take}
use Rattle.pf_ghost.specs.Prepared.{ready_of}
use Rattle.board_tests.proofs.seats.lists_for.Given as goal

abbrev pub invariant-loop-h : goal.invariant-loop-h
invariant-loop-h l = l.lists.items ≡ ready_of l.chunks (take l.h-index l.fresh)
