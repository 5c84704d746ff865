use Rattle.std.proofs.Common.{List, [], sym, subst}
use Rattle.std.specs.Prelude.{All}
use Rattle.pf_model.specs.declared.Spoke.{Spoke}
use Rattle.pf_model.proofs.Members.{nowhere}
use Rattle.pf_spokes.specs.Spokes.{HasSpots}
use Rattle.pf_patch.specs.declared.tris.NewTri.{NewTri}
use Rattle.pf_patch.specs.Tris.{HasCorners}
use Rattle.pf_patch.proofs.Bridge.{all-from, spots-after}
use Rattle.pf_patch.proofs.build.made.Goals as goal

pub of_parts-requires-clause-spokes : goal.of_parts-requires-clause-spokes
of_parts-requires-clause-spokes c =
    let P : List Spoke → Type 0 = λ l. All HasSpots l in
    let Q : List NewTri → Type 0 = λ l. All HasCorners l in
    subst P (sym c.in_ok-spokes.ensures) (spots-after c.args.plan.now.gone c.args.c.name c.deref.result.now [] (subst Q (sym c.deref.ensures.value) c.requires.corners) (all-from HasSpots [] (λ s h. absurd (nowhere s h))))
