-- Worked meshes, computed on the definitions: stars, keepers, boundary and fans.
use Rattle.std.specs.Prelude.{◌≡◌, [], ◌∷◌, true, false, pos, Some, None, refl}
use Rattle.pf_model.specs.Stars.{Star, star_of, spokes_of, is_sharer, keeper_of, is_boundary, is_one_fan, path_start, path_end}
use Rattle.pf_model.proofs.Rows.{at, square}
use Rattle.pf_model.proofs.OperationRows.{quartered, bow_tie, kite_of_two}

-- the star of a corner of the square
abbrev corner_star : Star
corner_star =
    record {
      node = 0;
      at = at (pos 0) (pos 0);
      spokes =
          record { right = 1; right_at = at (pos 4) (pos 0); left = 2; left_at = at (pos 4) (pos 4); owner = 0 }
          ∷ record { right = 2; right_at = at (pos 4) (pos 4); left = 3; left_at = at (pos 0) (pos 4); owner = 0 }
          ∷ [];
    }

square-star : star_of square 0 ≡ Some corner_star
square-star = refl

square-no_star : star_of square 4 ≡ None
square-no_star = refl

square-path_start : path_start (spokes_of square 0) (spokes_of square 0) ≡ Some 1
square-path_start = refl

square-path_end : path_end (spokes_of square 0) (spokes_of square 0) ≡ Some 3
square-path_end = refl

square-boundary_node : is_boundary square 0 ≡ true
square-boundary_node = refl

-- the middle of the square has a cycle of four triangles
quartered-inner : is_boundary quartered 4 ≡ false
quartered-inner = refl

quartered-fan : is_one_fan (spokes_of quartered 4) ≡ true
quartered-fan = refl

square-fan : is_one_fan (spokes_of square 0) ≡ true
square-fan = refl

bow_tie-fan : is_one_fan (spokes_of bow_tie 0) ≡ false
bow_tie-fan = refl

-- both chunks share the ends of the kite's long edge, and each owns an apex alone
two-keeper : keeper_of kite_of_two 0 ≡ Some 0
two-keeper = refl

two-keeper_of_apex : keeper_of kite_of_two 3 ≡ Some 1
two-keeper_of_apex = refl

two-shared : is_sharer 1 (spokes_of kite_of_two 0) ≡ true
two-shared = refl

two-not_shared : is_sharer 1 (spokes_of kite_of_two 2) ≡ false
two-not_shared = refl
