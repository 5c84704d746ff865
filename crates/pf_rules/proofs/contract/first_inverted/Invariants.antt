use Rattle.std.proofs.Common.{◌≡◌, drop}
use Rattle.std.specs.Prelude.{All}
use Rattle.pf_model.specs.Mesh.{Undivided, place_of}
use Rattle.pf_model.specs.Rows.{inverted}
use Rattle.pf_rules.specs.Star.{IsSpokePlaced}
use Rattle.pf_rules.proofs.contract.first_inverted.Given as goal

abbrev pub invariant-loop-s : goal.invariant-loop-s
invariant-loop-s l = (m : Undivided) → l.at ≡ place_of m l.v → All (IsSpokePlaced m) l.star → inverted m l.v (drop l.s-index l.star) ≡ inverted m l.v l.star
