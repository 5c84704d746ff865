use Rattle.std.proofs.Common.{◌≡◌, drop}
use Rattle.pf_hand.specs.Next.{first_kept}
use Rattle.pf_hand.proofs.next.next_kept.Given as goal

abbrev pub invariant-loop-k : goal.invariant-loop-k
invariant-loop-k l = first_kept (drop l.k-index l.kept) ≡ first_kept l.kept
