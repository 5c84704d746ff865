-- The star of a node as it is found by turning round the node, spoke by spoke.
use Rattle.std.specs.Prelude.{◌≡◌, ℕ, ◌<◌, Bool, true, List, Contains, length, Option, Some, None}
use Rattle.pf_model.specs.declared.Spoke.{Spoke}
use Rattle.pf_model.specs.Rising.{IsRising}
use Rattle.pf_model.specs.Mesh.{Undivided, place_of}
use Rattle.pf_model.specs.Fans.{AreBeside, IsOrderOf}
use Rattle.pf_model.specs.Stars.{spoke_lt, is_one_fan}
use Rattle.pf_spokes.specs.Spokes.{has_right}

-- the points of a spoke are where its nodes stand
pub record IsSpokePlaced (m : Undivided) (s : Spoke) : Type 0 where
  pub right : s.right_at ≡ place_of m s.right
  pub left : s.left_at ≡ place_of m s.left

-- what is found where the spoke with this right is looked for
pub record IsSpokeOn (spokes : List Spoke) (n : ℕ) (found : Option Spoke) : Type 0 where
  pub there : (s : Spoke) → found ≡ Some s → Contains spokes s × (s.right ≡ n)
  pub absent : found ≡ None → (s : Spoke) → Contains spokes s → s.right ≡ n → ⊥

-- what is found where the spoke with this left is looked for
pub record IsSpokeBefore (spokes : List Spoke) (n : ℕ) (found : Option Spoke) : Type 0 where
  pub there : (s : Spoke) → found ≡ Some s → Contains spokes s × (s.left ≡ n)
  pub absent : found ≡ None → (s : Spoke) → Contains spokes s → s.left ≡ n → ⊥

-- these are some of the spokes, by rising right
pub record AreSomeOf (spokes found : List Spoke) : Type 0 where
  pub rise : IsRising spoke_lt found
  pub within : (s : Spoke) → Contains found s → Contains spokes s

-- these are some of the spokes, one at least. In some order they lie beside each other, from the right `first` to the left `last`
pub record IsChain (spokes found : List Spoke) (first last : ℕ) : Type 0 where
  pub part : AreSomeOf spokes found
  pub some : 0 < length found
  pub order : List Spoke
  pub orders : IsOrderOf order found
  pub beside : AreBeside first order last

-- the spoke that begins where they end is one of them
pub record IsChainToLeft (spokes found : List Spoke) (first last : ℕ) : Type 0 where
  pub chain : IsChain spokes found first last
  pub after : (s : Spoke) → Contains spokes s → s.right ≡ last → has_right s.right found ≡ true

-- so is the spoke that ends where they begin: none is missing that meets one of them
pub record IsWholeTurn (spokes found : List Spoke) : Type 0 where
  pub first : ℕ
  pub last : ℕ
  pub left : IsChainToLeft spokes found first last
  pub before : (s : Spoke) → Contains spokes s → s.left ≡ first → has_right s.right found ≡ true

-- what is found of a node's spokes: all of them, where they are told to be one fan
pub record IsFan (spokes : List Spoke) (is_fan : Bool) (found : List Spoke) : Type 0 where
  pub told : is_fan ≡ is_one_fan spokes
  pub whole : is_fan ≡ true → found ≡ spokes
