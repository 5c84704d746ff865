-- The conditions of an operation as functions of values: a row for each, in their order. The rows take the two sides of the
-- edge, the spokes of its ends where a contraction asks for them, and a mesh that has the points and the bands.
-- An apex is 0 where there is none, and then an earlier row comes.
use Rattle.std.specs.Prelude.{ℕ, ℤ, pos, ◌*ℤ◌, List, [], ◌∷◌, ◌++◌, Bool, false, cond, not, ◌&&◌, ◌||◌, ◌==◌, nat_lt, Option, Some, None, int_lt, min, max, length, map, filter, is_some, unwrap_or, fold}
use Rattle.std.specs.Ordering.{int_eq}
use Rattle.pf_geom.specs.Plane.{middle_of}
use Rattle.pf_model.specs.declared.Side.{Side}
use Rattle.pf_model.specs.declared.Spoke.{Spoke}
use Rattle.pf_model.specs.declared.Cond.{Cond}
use Rattle.pf_model.specs.declared.Cond.TheVariants.{NoEdge, Foreign, OnBoundary, NotConvex, NotShorter, EdgeThere, TooShort, NotLongest, OddMidpoint, TooWide, Pinched, Corner, OffBoundary, LinkNode, Inverts, TooLong}
use Rattle.pf_model.specs.Limits.{most_spokes}
use Rattle.pf_model.specs.Clauses.{when, when_some}
use Rattle.pf_model.specs.Mesh.{Undivided, place_of, turn_at, len2_at}
use Rattle.pf_model.specs.Lengths.{longest_of, min2_of, is_long}
use Rattle.pf_model.specs.Stars.{is_one_fan, is_on_boundary, path_start, path_end, is_neighbour}

-- the side is there, with this owner
abbrev pub is_owned : ℕ → Option Side → Bool
is_owned chunk None = false
is_owned chunk (Some s) = s.owner == chunk

-- the apex of a side, and 0 where there is none
abbrev pub apex_or : Option Side → ℕ
apex_or None = 0
apex_or (Some s) = s.apex

-- x is the apex of the side
abbrev pub is_apex : ℕ → Option Side → Bool
is_apex x None = false
is_apex x (Some s) = s.apex == x

-- the number is above 0
abbrev pub is_positive : ℤ → Bool
is_positive z = int_lt (pos 0) z

-- all operations, at the edge a, b with these sides
abbrev pub edge_rows : ℕ → ℕ → ℕ → Option Side → Option Side → List (Option Cond)
edge_rows chunk a b l r =
    when (a == b || not (is_some l || is_some r)) NoEdge
    ∷ when (not (is_owned chunk l || is_owned chunk r)) Foreign
    ∷ []

-- a flip, but for its last condition
abbrev pub flip_rows : Undivided → ℕ → ℕ → Option Side → Option Side → List (Option Cond)
flip_rows m lo hi l r =
    when (not (is_some l && is_some r)) OnBoundary
    ∷ when (not (is_positive (turn_at m lo (apex_or r) (apex_or l)) && is_positive (turn_at m hi (apex_or l) (apex_or r)))) NotConvex
    ∷ when (not (int_lt (len2_at m (apex_or l) (apex_or r)) (len2_at m lo hi))) NotShorter
    ∷ []

-- the last condition of a flip: whether there is an edge between the two apexes
abbrev pub there_row : Option Side → Option Side → Bool → Option Cond
there_row l r there = when there (EdgeThere (apex_or l) (apex_or r))

-- a triangle at the edge p, q whose longest edge is another
abbrev pub not_longest : Undivided → ℕ → ℕ → Option Side → Option Cond
not_longest m p q None = None
not_longest m p q (Some s) =
    let e = longest_of m p q s.apex in
    when (not (e.lo == min p q && e.hi == max p q)) (NotLongest e.lo e.hi)

-- a bisection
abbrev pub bisect_rows : Undivided → ℕ → ℕ → Option Side → Option Side → List (Option Cond)
bisect_rows m lo hi l r =
    when (int_lt (len2_at m lo hi) (pos 4 *ℤ min2_of m lo hi)) (TooShort lo hi)
    ∷ not_longest m lo hi l
    ∷ not_longest m hi lo r
    ∷ when (not (is_some (middle_of (place_of m lo) (place_of m hi)))) OddMidpoint
    ∷ []

-- the rights and lefts of the spokes
abbrev pub neighbours : List Spoke → List ℕ
neighbours ss = map (λ s. s.right) ss ++ map (λ s. s.left) ss

-- the lesser of two numbers, where there is a first
abbrev pub lesser : Option ℕ → ℕ → Option ℕ
lesser None n = Some n
lesser (Some k) n = Some (min k n)

-- the least number that passes
abbrev pub least_that : (ℕ → Bool) → List ℕ → Option ℕ
least_that p ns = fold lesser None (filter p ns)

-- the spokes of u are a path that bends at u
abbrev pub is_corner : Undivided → ℕ → List Spoke → Bool
is_corner m u us = is_on_boundary us && not (int_eq (turn_at m (unwrap_or (path_start us us) 0) u (unwrap_or (path_end us us) 0)) (pos 0))

-- the spokes are a path, of which v is no end
abbrev pub is_off_boundary : ℕ → List Spoke → Bool
is_off_boundary v us = is_on_boundary us && not (unwrap_or (path_start us us) 0 == v || unwrap_or (path_end us us) 0 == v)

-- x is a neighbour of the node of these spokes, and no apex of the edge
abbrev pub is_link_node : Option Side → Option Side → List Spoke → ℕ → Bool
is_link_node l r vs x = is_neighbour x vs && not (is_apex x l || is_apex x r)

-- the first spoke without v that turns over at v
abbrev pub inverted : Undivided → ℕ → List Spoke → Option Cond
inverted m v [] = None
inverted m v (s ∷ ss) =
    cond (not (s.right == v || s.left == v) && not (is_positive (turn_at m v s.right s.left))) (Some (Inverts s.right s.left)) (inverted m v ss)

-- the edge v, x would be new, and is too long
abbrev pub is_too_long : Undivided → ℕ → List Spoke → ℕ → Bool
is_too_long m v vs x = not (x == v) && (not (is_neighbour x vs) && is_long m v x)

-- a contraction of u onto v, whose spokes these are, after the conditions on the width and the fan of u
abbrev pub star_rows : Undivided → ℕ → ℕ → Option Side → Option Side → List Spoke → List Spoke → List (Option Cond)
star_rows m u v l r us vs =
    when (is_corner m u us) Corner
    ∷ when (is_off_boundary v us) OffBoundary
    ∷ when_some (least_that (is_link_node l r vs) (neighbours us)) (λ x. LinkNode x)
    ∷ inverted m v us
    ∷ when_some (least_that (is_too_long m v vs) (neighbours us)) (λ x. TooLong (min v x) (max v x))
    ∷ []

-- a contraction of u onto v, whose spokes these are
abbrev pub contract_rows : Undivided → ℕ → ℕ → Option Side → Option Side → List Spoke → List Spoke → List (Option Cond)
contract_rows m u v l r us vs = when (nat_lt most_spokes (length us)) TooWide ∷ when (not (is_one_fan us)) Pinched ∷ star_rows m u v l r us vs
