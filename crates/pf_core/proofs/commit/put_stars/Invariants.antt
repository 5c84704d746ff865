use Rattle.std.proofs.Common.{◌≡◌, ℕ, ◌<◌, length, vec_len}
use Rattle.std.specs.Prelude.{Contains}
use Rattle.pf_star_model.specs.Lent.{Held}
use Rattle.pf_core.specs.Making.{starred}
use Rattle.pf_core.proofs.commit.put_stars.Given as goal

abbrev pub invariant-stars : goal.invariant-stars
invariant-stars l = (starred l.left.items l.nodes.items ≡ starred l.initial.left.items l.initial.nodes.items) × ((h : Held) → Contains l.left.items h → h.node < length l.nodes.items)

abbrev pub decreases-stars : goal.decreases-stars
decreases-stars l = vec_len l.left
