use Rattle.std.proofs.Common.{take}
use Rattle.pf_shelf.specs.Places.{Lacks}
use Rattle.pf_shelf.proofs.places.find.Given as goal

abbrev pub invariant-loop-i : goal.invariant-loop-i
invariant-loop-i l = Lacks (take l.i l.places) l.name
