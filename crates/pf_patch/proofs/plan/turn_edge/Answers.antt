use Rattle.std.proofs.Common.{List, ◌++◌, sym, ◌∙◌, ap, subst}
use Rattle.std.specs.Prelude.{All}
use Rattle.pf_patch.specs.declared.tris.Corner.{Corner}
use Rattle.pf_patch.specs.declared.tris.NewTri.{NewTri}
use Rattle.pf_patch.specs.Tris.{HasCorners}
use Rattle.pf_patch.specs.Plans.{flip_triangles}
use Rattle.pf_patch.proofs.Spots.{turned-spots}
use Rattle.pf_patch.proofs.plan.turn_edge.Goals as goal

pub returns-clause-corners : goal.returns-clause-corners
returns-clause-corners c =
    let P : List NewTri → Type 0 = λ l. All HasCorners l in
    let e = c.args.edge.now in
    let lo : Corner = record { name = c.args.lo; at = e.at } in
    let s = c.requires.in_range in
    subst P (sym (c.in_ok-turn.ensures ∙ ap (λ o. o ++ flip_triangles lo e.left e.right) c.requires.list)) (turned-spots lo e.left e.right s.lower s.on_left s.on_right)
