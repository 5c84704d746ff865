use Rattle.std.proofs.Common.{◌∙◌, ℕ, Bool, filter, map, not}
use Rattle.std.specs.Prelude.{fold}
use Rattle.pf_model.specs.Rows.{lesser, least_that}
use Rattle.pf_spokes.specs.Spokes.{has_right}
use Rattle.pf_wishes.specs.First.{is_wish}
use Rattle.pf_wishes.proofs.Leasts.{least-by_parts}
use Rattle.pf_wishes.proofs.wishes.least_wished.Goals as goal

pub returns : goal.returns
returns c =
    let p : ℕ → Bool = is_wish c.args.bands.now c.args.chunks.now c.args.star.now in
    let rights = c.least_right-least.ensures ∙ λ i. least_that p (map (λ s. s.right) (c.spokes.ensures.value i)) in
    c.least_left.ensures
    ∙ ((λ i. fold lesser (rights i) (filter p (map (λ s. s.left) (filter (λ s. not (has_right s.left c.args.star.now.spokes)) (c.spokes-2.ensures.value i)))))
    ∙ least-by_parts p c.args.star.now.spokes)
