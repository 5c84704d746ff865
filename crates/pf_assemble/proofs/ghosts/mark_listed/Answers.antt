use Rattle.std.proofs.Common.{◌∙◌, ◌≤◌, ◌||◌, length, take, arith}
use Rattle.std.specs.List.{list_any}
use Rattle.pf_model.specs.Mesh.{has_corner}
use Rattle.pf_assemble.specs.Placed.{tri_at}
use Rattle.pf_assemble.proofs.Filling.{marked-more, marked-all}
use Rattle.pf_assemble.proofs.ghosts.mark_listed.Goals as goal

pub list-preserved : goal.list-preserved
list-preserved c = (
  c.mark_corners.ensures.len ∙ c.list.invariant.0,
  λ p q h.
      marked-more c.mark_corners.new.rows.items p c.args.chunk q (λ w i. has_corner w (tri_at c.args.tris.now i)) c.args.list.now c.list.i-index 0 c.list-test.true
      (c.in_ok-mark_corners.ensures.marked p (λ w. list_any (λ i. has_corner w (tri_at c.args.tris.now i)) (take c.list.i-index c.args.list.now) || q w) (c.list.invariant.1 p q h)),
)

pub returns-clause-marked : goal.returns-clause-marked
returns-clause-marked c =
    let past : length c.args.list.now ≤ c.list.i-index = omega arith in
    λ p q h. marked-all c.list.rows.items p c.args.chunk q (λ w i. has_corner w (tri_at c.args.tris.now i)) c.args.list.now c.list.i-index past (c.list.invariant.1 p q h)
