use Rattle.std.proofs.Common.{◌≡◌, ◌-◌, ℕ, length}
use Rattle.pf_model.specs.Mesh.{Undivided}
use Rattle.pf_model.specs.Conforming.{IsConforming}
use Rattle.pf_model.specs.Stars.{spokes_of}
use Rattle.pf_rest.specs.Around.{IsWalked}
use Rattle.pf_rest.proofs.around.is_walk.Given as goal

abbrev pub decreases-turns : goal.decreases-turns
decreases-turns l = length l.star - l.met

abbrev pub invariant-turns : goal.invariant-turns
invariant-turns l = (m : Undivided) (u : ℕ) → IsConforming m → l.star ≡ spokes_of m u → IsWalked (spokes_of m u) l.met l.first l.right
