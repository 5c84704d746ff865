-- The least neighbour that passes, by the rights and by the lefts that are no rights.
use Rattle.std.proofs.Common.{◌≡◌, ◌∙◌, ℕ, List, Bool, sym, ap, filter, map, not}
use Rattle.std.specs.Prelude.{fold, None}
use Rattle.std.proofs.lemmas.List.Sums.{fold-append}
use Rattle.std.proofs.lemmas.List.Elements.{filter-append}
use Rattle.pf_model.specs.declared.Spoke.{Spoke}
use Rattle.pf_model.specs.Rows.{lesser, least_that, neighbours}
use Rattle.pf_spokes.specs.Spokes.{has_right}
use Rattle.pf_rules.proofs.Least.{least-of_names}

pub least-by_parts : (p : ℕ → Bool) (ss : List Spoke) → fold lesser (least_that p (map (λ s. s.right) ss)) (filter p (map (λ s. s.left) (filter (λ s. not (has_right s.left ss)) ss))) ≡ least_that p (neighbours ss)
least-by_parts p ss =
    let rights = map (λ s. s.right) ss in
    let lefts = map (λ s. s.left) (filter (λ s. not (has_right s.left ss)) ss) in
    sym (fold-append lesser None (filter p rights) (filter p lefts)) ∙ (ap (fold lesser None) (sym (filter-append p rights lefts)) ∙ least-of_names p ss)
