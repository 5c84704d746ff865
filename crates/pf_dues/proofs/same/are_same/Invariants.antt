use Rattle.std.proofs.Common.{◌≡◌, drop, length}
use Rattle.pf_core_model.specs.Same.{same_spokes}
use Rattle.pf_dues.proofs.same.are_same.Given as goal

abbrev pub invariant-loop-k : goal.invariant-loop-k
invariant-loop-k l = same_spokes (drop l.k l.a) (drop l.k l.b) ≡ same_spokes l.a l.b
