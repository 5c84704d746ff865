-- The first wish in a star.
use Rattle.std.specs.Prelude.{ℕ, List, Bool, cond, ◌&&◌, ◌||◌, ◌==◌, Option, min, max}
use Rattle.std.specs.List.{list_any}
use Rattle.std.specs.Option.{option_map}
use Rattle.pf_model.specs.declared.Band.{Band}
use Rattle.pf_model.specs.declared.Op.TheVariants.{Bisect, Contract}
use Rattle.pf_model.specs.Stars.{Star}
use Rattle.pf_model.specs.Rows.{neighbours, least_that}
use Rattle.pf_core_model.specs.declared.event.Asked.{Asked}
use Rattle.pf_wishes.specs.Looks.{acting_shown, is_long_shown, is_short_shown}

-- the edge to x is long or short, and one of the chunks acts on it
unfoldable pub is_wish : List Band → List ℕ → Star → ℕ → Bool
is_wish bands chunks s x = list_any (λ c. c == acting_shown s x) chunks && (is_long_shown bands s x || is_short_shown bands s x)

-- the bisection of the edge where it is long, else the contraction of the node onto x, by the acting chunk
abbrev pub wish_at : List Band → Star → ℕ → Asked
wish_at bands s x = record { chunk = acting_shown s x; op = cond (is_long_shown bands s x) (Bisect (min s.node x) (max s.node x)) (Contract s.node x) }

-- the wish at the least neighbour that has one
abbrev pub first_wish_of : List Band → List ℕ → Star → Option Asked
first_wish_of bands chunks s = option_map (wish_at bands s) (least_that (is_wish bands chunks s) (neighbours s.spokes))
