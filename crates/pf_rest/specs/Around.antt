-- The star of a node as it is read from the list of edges.
use Rattle.std.specs.Prelude.{◌≡◌, ℕ, List, length}
use Rattle.pf_model.specs.declared.Spoke.{Spoke}
use Rattle.pf_rules.specs.Star.{IsChain}

-- so many of the spokes lie beside each other, from the right `first` to the left `last`
pub record IsWalked (spokes : List Spoke) (n first last : ℕ) : Type 0 where
  pub found : List Spoke
  pub met : length found ≡ n
  pub chain : IsChain spokes found first last
