use Rattle.std.proofs.Common.{◌≡◌, ℕ, ◌<◌, vec_len}
use Rattle.std.specs.Prelude.{Contains}
use Rattle.pf_model.specs.Stars as model
use Rattle.pf_plain.specs.Stars.{star_by, placed}
use Rattle.pf_plain.proofs.stars.place_stars.Given as goal

abbrev pub invariant-places : goal.invariant-places
invariant-places l =
    ((s : model.Star) → Contains l.left.items s → s.node < vec_len l.stars)
    × ((n : ℕ) → placed l.left.items (star_by l.stars.items) n ≡ placed l.initial.left.items (star_by l.initial.stars.items) n)
    × (vec_len l.stars ≡ vec_len l.initial.stars)

abbrev pub decreases-places : goal.decreases-places
decreases-places l = vec_len l.left
