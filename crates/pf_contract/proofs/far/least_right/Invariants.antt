use Rattle.std.proofs.Common.{◌≡◌, drop}
use Rattle.std.specs.Prelude.{All, filter, fold, map}
use Rattle.pf_model.specs.Mesh.{Undivided}
use Rattle.pf_model.specs.Rows.{is_too_long, least_that, lesser}
use Rattle.pf_rules.specs.Lengths.{IsPlaced}
use Rattle.pf_rules.specs.Star.{IsSpokePlaced}
use Rattle.pf_contract.proofs.far.least_right.Given as goal

abbrev pub invariant-loop-s : goal.invariant-loop-s
invariant-loop-s l =
    (m : Undivided) → m.bands ≡ l.bands → IsPlaced m l.v → All (IsSpokePlaced m) l.spokes
    → fold lesser l.least (filter (is_too_long m l.v.name l.around) (map (λ s. s.right) (drop l.s-index l.spokes))) ≡ least_that (is_too_long m l.v.name l.around) (map (λ s. s.right) l.spokes)
