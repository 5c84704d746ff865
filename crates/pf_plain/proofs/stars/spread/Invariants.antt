use Rattle.std.proofs.Common.{◌≡◌, ℕ, ◌<◌, vec_len}
use Rattle.std.specs.Prelude.{Contains}
use Rattle.pf_ghost.specs.declared.ready.Listed.{Listed}
use Rattle.pf_ghost.specs.Spread.{named_node}
use Rattle.pf_plain.specs.Stars.{star_by, spread_by}
use Rattle.pf_plain.proofs.stars.spread.Given as goal

abbrev pub invariant-puts : goal.invariant-puts
invariant-puts l =
    ((k : Listed) → Contains l.lists.items k → named_node l.name k < vec_len l.stars)
    × ((n : ℕ) → spread_by l.name l.lists.items (star_by l.stars.items) n ≡ spread_by l.name l.initial.lists.items (star_by l.initial.stars.items) n)
    × (vec_len l.stars ≡ vec_len l.initial.stars)

abbrev pub decreases-puts : goal.decreases-puts
decreases-puts l = vec_len l.lists
