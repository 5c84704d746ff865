use Rattle.std.proofs.Common.{◌≡◌, drop}
use Rattle.pf_model.specs.Stars.{left_after}
use Rattle.pf_rest.proofs.around.left_of.Given as goal

abbrev pub invariant-loop-s : goal.invariant-loop-s
invariant-loop-s l = left_after (drop l.s-index l.star) l.right ≡ left_after l.star l.right
