use Rattle.std.proofs.Common.{◌∙◌, ◌≤◌, ◌||◌, ◌&&◌, not, ◌==◌, length, take, arith}
use Rattle.std.specs.List.{list_any}
use Rattle.pf_assemble.proofs.Filling.{marked-more, marked-all}
use Rattle.pf_assemble.proofs.rows.mark_others.Goals as goal

pub list-preserved : goal.list-preserved
list-preserved c = (
  c.mark_other.ensures.len ∙ c.list.invariant.0,
  λ p q h.
      marked-more c.mark_other.new.rows.items p c.args.n q (λ w k. not (k == c.args.own) && k == w) c.args.list.now c.list.row-index 0 c.list-test.true
      (c.in_ok-mark_other.ensures.marked p (λ w. list_any (λ k. not (k == c.args.own) && k == w) (take c.list.row-index c.args.list.now) || q w) (c.list.invariant.1 p q h)),
)

pub returns-clause-marked : goal.returns-clause-marked
returns-clause-marked c =
    let past : length c.args.list.now ≤ c.list.row-index = omega arith in
    λ p q h. marked-all c.list.rows.items p c.args.n q (λ w k. not (k == c.args.own) && k == w) c.args.list.now c.list.row-index past (c.list.invariant.1 p q h)
