use Rattle.std.proofs.Common.{◌≡◌}
use Rattle.std.specs.Prelude.{map}
use Rattle.pf_core_model.specs.Lists.{counting}
use Rattle.pf_locks.specs.First.{start_word}
use Rattle.pf_locks.proofs.opening.words_for.Given as goal

abbrev pub invariant-loop-n : goal.invariant-loop-n
invariant-loop-n l = l.list.items ≡ map (start_word l.m.mesh) (counting 0 l.n)
