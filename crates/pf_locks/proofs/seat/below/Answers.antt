use Rattle.std.proofs.Common.{◌≡◌, false, nat_lt, ◌∙◌, sym, arith}
use Rattle.std.proofs.lemmas.Bool.Decides.{nat_tests}
use Rattle.pf_locks.proofs.Flags.{none_set}
use Rattle.pf_locks.proofs.seat.below.Goals as goal

pub loop-k-init : goal.loop-k-init
loop-k-init c = λ j. let none : nat_lt j 0 ≡ false = grind (arith, nat_tests) in none_set 64 j ∙ sym none
