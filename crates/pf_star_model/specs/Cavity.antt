-- The cavity of an operation: the nodes that are to be held for it.
-- As lists, in which a name may stand twice.
use Rattle.std.specs.Prelude.{◌≡◌, ℕ, List, [], ◌∷◌, ◌++◌, cond, not, Option, Some, None, is_some, is_none, min, max}
use Rattle.pf_model.specs.declared.Op.{Op}
use Rattle.pf_model.specs.declared.Op.TheVariants.{Flip, Bisect, Contract}
use Rattle.pf_model.specs.declared.Side.{Side}
use Rattle.pf_model.specs.Mesh.{Undivided, side_of}
use Rattle.pf_model.specs.Stars.{Star, spokes_of}
use Rattle.pf_model.specs.Conditions.{first_failing, neighbours, least_that}
use Rattle.pf_star_model.specs.Lent.{spokes_in}
use Rattle.pf_star_model.specs.Judged.{left_seen, right_seen, ends_failing}

-- the apex of a side, where there is one
abbrev pub apexes : Option Side → List ℕ
apexes None = []
apexes (Some s) = s.apex ∷ []

-- the two ends, always; both apexes of a flip whose first five conditions pass; the apexes of a bisection that passes; all
-- neighbours of u in a contraction that passes
abbrev pub cavity_of : Undivided → ℕ → Op → List ℕ
cavity_of m chunk (Flip a b) =
    a ∷ b ∷ cond (is_none (ends_failing m chunk a b)) (apexes (side_of m.tris (min a b) (max a b)) ++ apexes (side_of m.tris (max a b) (min a b))) []
cavity_of m chunk (Bisect a b) =
    a ∷ b ∷ cond (is_none (first_failing m chunk (Bisect a b))) (apexes (side_of m.tris (min a b) (max a b)) ++ apexes (side_of m.tris (max a b) (min a b))) []
cavity_of m chunk (Contract u v) = u ∷ v ∷ cond (is_none (first_failing m chunk (Contract u v))) (neighbours (spokes_of m u)) []

-- the cavity as the stars of the ends show it, where each condition that is judged from them passes
abbrev pub cavity_seen : (ℕ → Option Star) → Op → List ℕ
cavity_seen lent (Flip a b) = a ∷ b ∷ apexes (left_seen lent (min a b) (max a b)) ++ apexes (right_seen lent (min a b) (max a b))
cavity_seen lent (Bisect a b) = a ∷ b ∷ apexes (left_seen lent (min a b) (max a b)) ++ apexes (right_seen lent (min a b) (max a b))
cavity_seen lent (Contract u v) = u ∷ v ∷ neighbours (spokes_in (lent u))

-- the least node of the cavity that isn't held yet, and None where the cavity is whole
abbrev pub needed : (ℕ → Option Star) → Op → Option ℕ
needed lent op = least_that (λ n. not (is_some (lent n))) (cavity_seen lent op)

-- each condition passes that is judged from the stars of the ends
abbrev pub PassesAtEnds : Undivided → ℕ → Op → Type 0
PassesAtEnds m chunk (Flip a b) = ends_failing m chunk a b ≡ None
PassesAtEnds m chunk (Bisect a b) = first_failing m chunk (Bisect a b) ≡ None
PassesAtEnds m chunk (Contract u v) = first_failing m chunk (Contract u v) ≡ None
