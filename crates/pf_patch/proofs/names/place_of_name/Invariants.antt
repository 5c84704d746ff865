use Rattle.std.proofs.Common.{ℕ, ◌<◌, get_or}
use Rattle.pf_patch.proofs.names.place_of_name.Given as goal

abbrev pub invariant-loop-i : goal.invariant-loop-i
invariant-loop-i l = (k d : ℕ) → k < l.i → get_or l.names k d < l.n
