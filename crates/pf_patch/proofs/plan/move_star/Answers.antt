use Rattle.std.proofs.Common.{List, ◌++◌, sym, ◌∙◌, ap, subst}
use Rattle.std.specs.Prelude.{All}
use Rattle.pf_patch.specs.declared.tris.Corner.{Corner}
use Rattle.pf_patch.specs.declared.tris.NewTri.{NewTri}
use Rattle.pf_patch.specs.Tris.{HasCorners}
use Rattle.pf_patch.specs.Plans.{moved}
use Rattle.pf_patch.proofs.Spots.{moved-spots}
use Rattle.pf_patch.proofs.plan.move_star.Goals as goal

pub returns-clause-corners : goal.returns-clause-corners
returns-clause-corners c =
    let P : List NewTri → Type 0 = λ l. All HasCorners l in
    let v : Corner = record { name = c.args.v; at = c.end_of.result } in
    subst P (sym (c.in_ok-move_to.ensures ∙ ap (λ o. o ++ moved v c.spokes-3.result.now) c.requires)) (moved-spots v c.spokes-3.result.now c.end_of.ensures.in_range c.spokes-3.ensures.in_range)
