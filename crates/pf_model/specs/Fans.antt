-- What it means that the spokes of a node are one fan: one cycle or one path.
use Rattle.std.specs.Prelude.{◌≡◌, ◌≢◌, ◌⊎◌, ℕ, List, [], ◌∷◌, Contains}
use Rattle.pf_model.specs.declared.Spoke.{Spoke}
use Rattle.pf_model.specs.Rising.{AreDifferent}

-- the spokes lie beside each other: from this right on, the left of each is the right of the next, up to this last left
abbrev pub AreBeside : ℕ → List Spoke → ℕ → Type 0
AreBeside right [] last = right ≡ last
AreBeside right (s ∷ ss) last = (s.right ≡ right) × AreBeside s.left ss last

-- the first list has the spokes of the second, each once, in some order
pub record IsOrderOf (order ss : List Spoke) : Type 0 where
  pub all : (s : Spoke) → Contains ss s → Contains order s
  pub only : (s : Spoke) → Contains order s → Contains ss s
  pub once : AreDifferent order

-- the spokes, in some order, lie beside each other. They are a cycle, where they end at the right that they begin with, or a
-- path, where that right is no left
pub record IsOneFan (ss : List Spoke) : Type 0 where
  pub order : List Spoke
  pub orders : IsOrderOf order ss
  pub first : ℕ
  pub last : ℕ
  pub beside : AreBeside first order last
  pub shape : (last ≡ first) ⊎ ((s : Spoke) → Contains ss s → s.left ≢ first)
