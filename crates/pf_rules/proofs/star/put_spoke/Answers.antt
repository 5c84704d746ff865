use Rattle.std.proofs.Common.{◌≡◌, ◌∙◌, sym, subst}
use Rattle.std.specs.Prelude.{All, insert}
use Rattle.pf_model.specs.Rising.{insert_by}
use Rattle.pf_model.specs.Stars.{spoke_lt}
use Rattle.pf_spokes.specs.Spokes.{HasSpots}
use Rattle.pf_rules.proofs.StarSpots.{all-insert}
use Rattle.pf_rules.proofs.star.put_spoke.Goals as goal

pub returns-clause-spots : goal.returns-clause-spots
returns-clause-spots c = λ spot spots.
    let items = c.args.spokes.now.items in
    let spoke = c.args.spoke in
    let placed : insert items c.place_of_spoke-at.result spoke ≡ insert_by spoke_lt spoke items = subst (λ l. insert l c.place_of_spoke-at.result spoke ≡ insert_by spoke_lt spoke l) c.as_slice.ensures.value c.place_of_spoke-at.ensures.place in
    subst (λ l. All HasSpots l) (sym (c.insert.ensures.items ∙ placed)) (all-insert HasSpots spoke_lt spoke items spot spots)
