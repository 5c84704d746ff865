use Rattle.std.proofs.Common.{◌≡◌, ℕ, take, ◌==◌}
use Rattle.std.specs.Prelude.{Contains}
use Rattle.std.specs.List.{list_any}
use Rattle.pf_star_model.specs.Lent.{Held, is_held, star_held}
use Rattle.pf_star.specs.Sets.{AreRising}
use Rattle.pf_star.proofs.set.chosen.Given as goal

abbrev pub invariant-loop-n : goal.invariant-loop-n
invariant-loop-n l =
    AreRising l.pairs.items
    × ((h : Held) → Contains l.pairs.items h → h.star ≡ star_held l.all h.node)
    × ((k : ℕ) → is_held l.pairs.items k ≡ list_any (λ j. j == k) (take l.n-index l.nodes))
