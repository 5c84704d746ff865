-- The list of live nodes before and after an operation.
use Rattle.std.specs.Prelude.{ℕ, ◌<◌, ◌≤◌, List, [], ◌∷◌, ◌++◌, ◌==◌, not, filter, length, slice_index_or}
use Rattle.pf_geom.specs.declared.Point.{Point}
use Rattle.pf_model.specs.declared.Site.{Site}
use Rattle.pf_model.specs.declared.Op.{Op}
use Rattle.pf_model.specs.declared.Op.TheVariants.{Flip, Bisect, Contract}

-- so many sites have a name below n, and they stand first
pub record IsIndexOfSite (n : ℕ) (ss : List Site) (r : ℕ) : Type 0 where
  pub within : r ≤ length ss
  pub before : (k : ℕ) (d : Site) → k < r → (slice_index_or ss k d).name < n
  pub from : (k : ℕ) (d : Site) → r ≤ k → k < length ss → n ≤ (slice_index_or ss k d).name

-- the sites after an operation, whose new node is named n and stands at a point
abbrev pub sites_after : List Site → ℕ → Point → Op → List Site
sites_after ss n at (Flip a b) = ss
sites_after ss n at (Bisect a b) = ss ++ record { name = n; at = at } ∷ []
sites_after ss n at (Contract u v) = filter (λ s. not (s.name == u)) ss
