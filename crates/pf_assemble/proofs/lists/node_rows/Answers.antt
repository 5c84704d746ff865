use Rattle.std.proofs.Common.{◌≡◌, ◌∙◌, [], false, ◌||◌, ap, pos}
use Rattle.std.proofs.lemmas.List.{get_or_default}
use Rattle.pf_model.specs.Stars.{Star, is_sharer}
use Rattle.pf_assemble.specs.Placed.{star_at, is_sharer_at}
use Rattle.pf_assemble.proofs.Filling.{rows-open, rows-close, or-none}
use Rattle.pf_assemble.proofs.lists.node_rows.Goals as goal

pub stars-preserved : goal.stars-preserved
stars-preserved c =
    let p = is_sharer_at c.args.stars.now in
    let blank : Star = record { node = 0; at = record { x = pos 0; y = pos 0 }; spokes = [] } in
    let is : c.spokes.result.now ≡ (star_at c.args.stars.now c.stars.place).spokes = c.spokes.ensures.value ∙ ap (λ (s : Star). s.spokes) (c.index-stars-place.is ∙ get_or_default c.args.stars.now c.stars.place _ blank c.stars-test.true) in (
      c.mark_owners.ensures.len ∙ c.stars.invariant.0,
      rows-close c.mark_owners.new.rows.items p c.stars.place (λ w. is_sharer w c.spokes.result.now || false)
          (c.in_ok-mark_owners.ensures.marked p (λ w. false) (rows-open c.stars.rows.items p c.stars.place c.stars.invariant.1))
          (λ w l. or-none (is_sharer w c.spokes.result.now) ∙ ap (is_sharer w) is),
    )
