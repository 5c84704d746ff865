-- The first condition that an operation fails, as the held stars show it: the rows of conditions at the sides, points and spokes
-- that they show.
use Rattle.std.specs.Prelude.{◌≡◌, ℕ, List, [], ◌∷◌, ◌++◌, Option, None, min, max}
use Rattle.pf_model.specs.declared.Band.{Band}
use Rattle.pf_model.specs.declared.Op.{Op}
use Rattle.pf_model.specs.declared.Op.TheVariants.{Flip, Bisect, Contract}
use Rattle.pf_model.specs.declared.Cond.{Cond}
use Rattle.pf_model.specs.Clauses.{first_of}
use Rattle.pf_model.specs.declared.Side.{Side}
use Rattle.pf_model.specs.Mesh.{Undivided, side_of}
use Rattle.pf_model.specs.Stars.{Star, star_of, is_neighbour}
use Rattle.pf_model.specs.Rows.{edge_rows, flip_rows, there_row, bisect_rows, contract_rows, apex_or}
use Rattle.pf_star_model.specs.Lent.{spokes_in, side_to, side_from, sight_of}

-- the left and the right side of the edge from a to b, as the star of a shows them
abbrev pub left_seen : (ℕ → Option Star) → ℕ → ℕ → Option Side
left_seen lent a b = side_to b (spokes_in (lent a))

abbrev pub right_seen : (ℕ → Option Star) → ℕ → ℕ → Option Side
right_seen lent a b = side_from b (spokes_in (lent a))

-- the first of a flip's conditions but the last
abbrev pub judged_ends : (ℕ → Option Star) → ℕ → ℕ → ℕ → Option Cond
judged_ends lent chunk a b =
    let lo = min a b in let hi = max a b in
    let l = left_seen lent lo hi in let r = right_seen lent lo hi in
    first_of (edge_rows chunk a b l r ++ flip_rows (sight_of [] (lent lo)) lo hi l r)

-- the first condition that comes; the operation passes where none does
abbrev pub judged : (ℕ → Option Star) → List Band → ℕ → Op → Option Cond
judged lent bands chunk (Flip a b) =
    let lo = min a b in let hi = max a b in
    let l = left_seen lent lo hi in let r = right_seen lent lo hi in
    first_of (edge_rows chunk a b l r ++ (flip_rows (sight_of bands (lent lo)) lo hi l r ++ there_row l r (is_neighbour (apex_or r) (spokes_in (lent (apex_or l)))) ∷ []))
judged lent bands chunk (Bisect a b) =
    let lo = min a b in let hi = max a b in
    let l = left_seen lent lo hi in let r = right_seen lent lo hi in
    first_of (edge_rows chunk a b l r ++ bisect_rows (sight_of bands (lent lo)) lo hi l r)
judged lent bands chunk (Contract u v) =
    let l = left_seen lent u v in let r = right_seen lent u v in
    first_of (edge_rows chunk u v l r ++ contract_rows (sight_of bands (lent u)) u v l r (spokes_in (lent u)) (spokes_in (lent v)))

-- the bands are the mesh's, where the operation asks for them
abbrev pub AreBandsShown : List Band → Undivided → Op → Type 0
AreBandsShown bands m (Flip a b) = Unit {0}
AreBandsShown bands m (Bisect a b) = bands ≡ m.bands
AreBandsShown bands m (Contract u v) = bands ≡ m.bands

-- the first of a flip's conditions but the last, on a mesh
abbrev pub ends_failing : Undivided → ℕ → ℕ → ℕ → Option Cond
ends_failing m chunk a b =
    let lo = min a b in let hi = max a b in
    let l = side_of m.tris lo hi in let r = side_of m.tris hi lo in
    first_of (edge_rows chunk a b l r ++ flip_rows m lo hi l r)

-- the left apex of a flip whose other conditions pass is shown
abbrev pub IsApexShown : (ℕ → Option Star) → Undivided → ℕ → Op → Type 0
IsApexShown lent m chunk (Flip a b) =
    judged_ends lent chunk a b ≡ None → lent (apex_or (left_seen lent (min a b) (max a b))) ≡ star_of m (apex_or (left_seen lent (min a b) (max a b)))
IsApexShown lent m chunk (Bisect a b) = Unit {0}
IsApexShown lent m chunk (Contract u v) = Unit {0}
