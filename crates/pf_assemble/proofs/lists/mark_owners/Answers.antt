use Rattle.std.proofs.Common.{◌∙◌, ◌≤◌, ◌||◌, ◌==◌, length, take, arith, pos}
use Rattle.pf_model.specs.declared.Spoke.{Spoke}
use Rattle.pf_model.specs.Stars.{is_sharer}
use Rattle.pf_assemble.proofs.Filling.{marked-more, marked-all}
use Rattle.pf_assemble.proofs.lists.mark_owners.Goals as goal

pub spokes-preserved : goal.spokes-preserved
spokes-preserved c =
    let blank : Spoke = record { right = 0; right_at = record { x = pos 0; y = pos 0 }; left = 0; left_at = record { x = pos 0; y = pos 0 }; owner = 0 } in (
      c.mark.ensures.len ∙ c.spokes.invariant.0,
      λ p q h.
          marked-more c.mark.new.rows.items p c.args.place q (λ w (s : Spoke). s.owner == w) c.args.spokes.now c.spokes.s-index blank c.spokes-test.true
          (c.in_ok-mark.ensures.marked p (λ w. is_sharer w (take c.spokes.s-index c.args.spokes.now) || q w) (c.spokes.invariant.1 p q h)),
    )

pub returns-clause-marked : goal.returns-clause-marked
returns-clause-marked c =
    let past : length c.args.spokes.now ≤ c.spokes.s-index = omega arith in
    λ p q h. marked-all c.spokes.rows.items p c.args.place q (λ w (s : Spoke). s.owner == w) c.args.spokes.now c.spokes.s-index past (c.spokes.invariant.1 p q h)
