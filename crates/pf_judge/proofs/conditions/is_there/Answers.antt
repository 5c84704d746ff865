use Rattle.std.proofs.Common.{◌∙◌, ◌||◌}
use Rattle.std.specs.Prelude.{is_some}
use Rattle.pf_model.specs.Mesh.{is_edge}
use Rattle.pf_judge.proofs.conditions.is_there.Goals as goal

pub returns : goal.returns
returns c = λ m s.
    let p = c.apex_of.result in
    let q = c.apex_of-2.result in
    c.is_edge.ensures
    ∙ ((λ i. is_some (s.triangles.sides p q i) || is_some (s.triangles.sides q p i))
    ∙ (λ i. is_edge m.tris (c.apex_of.ensures i) (c.apex_of-2.ensures i)))
