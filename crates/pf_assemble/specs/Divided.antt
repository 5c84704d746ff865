-- The copies that the chunks of a mesh have, by its stars.
use Rattle.std.specs.Prelude.{ℕ, List, Some, filter_map}
use Rattle.std.specs.Option.{option_map}
use Rattle.pf_model.specs.Stars.{Star}
use Rattle.pf_star_model.specs.Copies.{Copy, due_copy}

-- the copies of these stars that a chunk has
abbrev pub copies_in : ℕ → List Star → List Copy
copies_in c stars = filter_map (λ s. option_map (λ x. record { chunk = c; star = x }) (due_copy c (Some s))) stars
