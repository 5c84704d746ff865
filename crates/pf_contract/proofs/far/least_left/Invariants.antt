use Rattle.std.proofs.Common.{◌≡◌, drop}
use Rattle.std.specs.Prelude.{All, filter, fold, map}
use Rattle.pf_model.specs.Mesh.{Undivided}
use Rattle.pf_model.specs.Rows.{is_too_long, lesser}
use Rattle.pf_rules.specs.Lengths.{IsPlaced}
use Rattle.pf_rules.specs.Star.{IsSpokePlaced}
use Rattle.pf_contract.proofs.far.least_left.Given as goal

abbrev pub invariant-loop-s : goal.invariant-loop-s
invariant-loop-s l =
    (m : Undivided) → m.bands ≡ l.bands → IsPlaced m l.v → All (IsSpokePlaced m) l.spokes
    → fold lesser l.found (filter (is_too_long m l.v.name l.around) (map (λ s. s.left) (drop l.s-index l.spokes))) ≡ fold lesser l.fn.least (filter (is_too_long m l.v.name l.around) (map (λ s. s.left) l.spokes))
