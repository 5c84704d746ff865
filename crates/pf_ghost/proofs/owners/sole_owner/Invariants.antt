use Rattle.std.proofs.Common.{◌≡◌, ℕ, ◌<◌, get_or}
use Rattle.pf_model.specs.declared.Spoke.{Spoke}
use Rattle.pf_ghost.proofs.owners.sole_owner.Given as goal

abbrev pub invariant-loop-s : goal.invariant-loop-s
invariant-loop-s l = (k : ℕ) (d : Spoke) → k < l.s-index → (get_or l.spokes k d).owner ≡ l.owner
