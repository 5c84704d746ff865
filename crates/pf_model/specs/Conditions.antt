-- The first condition that an operation fails on a mesh: the rows at the mesh's own sides, points and spokes.
use Rattle.std.specs.Prelude.{ℕ, List, [], ◌∷◌, ◌++◌, Option, min, max}
use Rattle.pf_model.specs.declared.Side.{Side}
use Rattle.pf_model.specs.declared.Spoke.{Spoke}
use Rattle.pf_model.specs.declared.Op.{Op}
use Rattle.pf_model.specs.declared.Op.TheVariants.{Flip, Bisect, Contract}
use Rattle.pf_model.specs.declared.Cond.{Cond}
use Rattle.pf_model.specs.Clauses.{first_of}
use Rattle.pf_model.specs.Mesh.{Undivided, is_edge, side_of}
use Rattle.pf_model.specs.Stars.{spokes_of}
use Rattle.pf_model.specs.Rows.{edge_rows, flip_rows, there_row, bisect_rows, contract_rows}
pub use Rattle.pf_model.specs.Rows.{is_owned, apex_or, is_positive, is_apex, not_longest, neighbours, lesser, least_that, inverted}

-- the clauses of every operation at the edge a, b
abbrev pub edge_clauses : Undivided → ℕ → ℕ → ℕ → List (Option Cond)
edge_clauses m chunk a b = edge_rows chunk a b (side_of m.tris a b) (side_of m.tris b a)

-- the clauses of a flip between these sides
abbrev pub flip_clauses_at : Undivided → ℕ → ℕ → Option Side → Option Side → List (Option Cond)
flip_clauses_at m lo hi l r = flip_rows m lo hi l r ++ there_row l r (is_edge m.tris (apex_or l) (apex_or r)) ∷ []

-- the clauses of a flip of the edge lo, hi
abbrev pub flip_clauses : Undivided → ℕ → ℕ → List (Option Cond)
flip_clauses m lo hi = flip_clauses_at m lo hi (side_of m.tris lo hi) (side_of m.tris hi lo)

-- the clauses of a bisection
abbrev pub bisect_clauses : Undivided → ℕ → ℕ → List (Option Cond)
bisect_clauses m lo hi = bisect_rows m lo hi (side_of m.tris lo hi) (side_of m.tris hi lo)

-- the clauses of a contraction of u onto v, whose spokes these are
abbrev pub contract_clauses : Undivided → ℕ → ℕ → List Spoke → List Spoke → List (Option Cond)
contract_clauses m u v us vs = contract_rows m u v (side_of m.tris u v) (side_of m.tris v u) us vs

-- the first condition that comes, in the order of the clauses; an operation passes where none does
abbrev pub first_failing : Undivided → ℕ → Op → Option Cond
first_failing m chunk (Flip a b) = first_of (edge_clauses m chunk a b ++ flip_clauses m (min a b) (max a b))
first_failing m chunk (Bisect a b) = first_of (edge_clauses m chunk a b ++ bisect_clauses m (min a b) (max a b))
first_failing m chunk (Contract u v) = first_of (edge_clauses m chunk u v ++ contract_clauses m u v (spokes_of m u) (spokes_of m v))
