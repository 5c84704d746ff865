-- The calls on a ring, by the sides of its edges.
use Rattle.std.proofs.Common.{◌≡◌, ℕ, List, [], ◌∷◌, refl, Bool, true, false, cond}
use Rattle.std.specs.Prelude.{Option, Some, ◌==◌}
use Rattle.std.specs.Option.{option_map}
use Rattle.pf_model.specs.declared.Spoke.{Spoke}
use Rattle.pf_model.specs.declared.Side.{Side}
use Rattle.pf_model.specs.Stars.{left_after}
use Rattle.pf_star_model.specs.Lent.{side_to, side_from}
use Rattle.pf_star_model.specs.Rings.{right_before}

abbrev apex_of : Option Side → Option ℕ
apex_of o = option_map (λ s. s.apex) o

pub left_after-side : (n : ℕ) (ss : List Spoke) → left_after ss n ≡ apex_of (side_to n ss)
left_after-side n [] = refl
left_after-side n (s ∷ ss) = go (s.right == n) (left_after-side n ss)
  where
    side : Side
    side = record { apex = s.left; owner = s.owner }

    go : (b : Bool) → left_after ss n ≡ apex_of (side_to n ss) → cond b (Some s.left) (left_after ss n) ≡ apex_of (cond b (Some side) (side_to n ss))
    go true ih = refl
    go false ih = ih

pub right_before-side : (n : ℕ) (ss : List Spoke) → right_before ss n ≡ apex_of (side_from n ss)
right_before-side n [] = refl
right_before-side n (s ∷ ss) = go (s.left == n) (right_before-side n ss)
  where
    side : Side
    side = record { apex = s.right; owner = s.owner }

    go : (b : Bool) → right_before ss n ≡ apex_of (side_from n ss) → cond b (Some s.right) (right_before ss n) ≡ apex_of (cond b (Some side) (side_from n ss))
    go true ih = refl
    go false ih = ih
