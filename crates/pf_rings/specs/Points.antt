-- The two sides that a spoke shows, and the first spoke with a name.
use Rattle.std.specs.Prelude.{ℕ, List, [], ◌∷◌, cond, ◌==◌, Option, Some, None}
use Rattle.pf_model.specs.declared.Spoke.{Spoke}
use Rattle.pf_model.specs.declared.Side.{Side}

-- what stands left of the edge from the spokes' node to the spoke's right
abbrev pub left_side : Spoke → Side
left_side s = record { apex = s.left; owner = s.owner }

-- what stands left of the edge from the spoke's left to the spokes' node
abbrev pub right_side : Spoke → Side
right_side s = record { apex = s.right; owner = s.owner }

-- the first spoke with this right
abbrev pub first_to : ℕ → List Spoke → Option Spoke
first_to n [] = None
first_to n (s ∷ ss) = cond (s.right == n) (Some s) (first_to n ss)

-- the first spoke with this left
abbrev pub first_from : ℕ → List Spoke → Option Spoke
first_from n [] = None
first_from n (s ∷ ss) = cond (s.left == n) (Some s) (first_from n ss)
