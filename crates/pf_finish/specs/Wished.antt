-- Which neighbours in a star may have a line in the rest list at their edge.
use Rattle.std.specs.Prelude.{◌≡◌, ℕ, ◌≤◌, List, Bool, true, ◌||◌, Contains}
use Rattle.pf_model.specs.declared.Band.{Band}
use Rattle.pf_model.specs.Stars.{Star, is_neighbour}
use Rattle.pf_wishes.specs.Looks.{is_long_shown, is_short_shown, is_shorter_shown}

-- the edge to x is long or short, or its other diagonal is shorter
abbrev pub is_wished : List Band → Star → ℕ → Bool
is_wished bands s x = is_long_shown bands s x || (is_short_shown bands s x || is_shorter_shown s x)

-- each such neighbour that isn't below the star's node stands in the list
abbrev pub HasWishes : List Band → Star → List ℕ → Type 0
HasWishes bands s found = (x : ℕ) → s.node ≤ x → is_neighbour x s.spokes ≡ true → is_wished bands s x ≡ true → Contains found x
