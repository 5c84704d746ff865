use Rattle.std.proofs.Common.{List, ◌++◌, sym, ◌∙◌, ap, subst}
use Rattle.std.specs.Prelude.{All}
use Rattle.std.proofs.lemmas.List.Elements.{All-append}
use Rattle.pf_patch.specs.declared.tris.Corner.{Corner}
use Rattle.pf_patch.specs.declared.tris.NewTri.{NewTri}
use Rattle.pf_patch.specs.Tris.{HasCorners}
use Rattle.pf_patch.specs.Plans.{left_halves, right_halves}
use Rattle.pf_patch.proofs.Spots.{left-spots, right-spots}
use Rattle.pf_patch.proofs.plan.cut_edge.Goals as goal

pub returns-clause-corners : goal.returns-clause-corners
returns-clause-corners c =
    let P : List NewTri → Type 0 = λ l. All HasCorners l in
    let e = c.args.edge.now in
    let s = c.requires.edge in
    let n : Corner = c.args.born in
    let lo : Corner = record { name = c.args.lo; at = e.at } in
    let hi : Corner = record { name = c.args.hi; at = c.end_of.result } in
    let left = subst P (sym (c.in_ok-halve_left.ensures ∙ ap (λ o. o ++ left_halves n lo hi e.left) c.requires.list)) (left-spots n lo hi e.left c.requires.in_range s.lower c.end_of.ensures.in_range s.on_left) in
    let right = right-spots n lo hi e.right c.requires.in_range s.lower c.end_of.ensures.in_range s.on_right in
    subst P (sym c.in_ok-halve_right.ensures) (All-append HasCorners c.halve_left.new.list.items (right_halves n lo hi e.right) left right)
