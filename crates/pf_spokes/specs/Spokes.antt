-- What is said of spokes wherever they are kept.
use Rattle.std.specs.Prelude.{ℕ, List, ◌==◌, Bool}
use Rattle.std.specs.List.{list_any}
use Rattle.pf_geom.specs.Plane.{IsInRange}
use Rattle.pf_model.specs.declared.Spoke.{Spoke}

-- a spoke has this right
abbrev pub has_right : ℕ → List Spoke → Bool
has_right n ss = list_any (λ s. s.right == n) ss

-- the points of a spoke are in range
pub record HasSpots (s : Spoke) : Type 0 where
  pub right : IsInRange s.right_at
  pub left : IsInRange s.left_at
