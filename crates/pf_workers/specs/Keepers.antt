-- The keepers of nodes, as they are gathered triangle by triangle.
use Rattle.std.specs.Prelude.{ℕ, List, [], ◌∷◌, cond, ◌==◌, slice_index_or, Option, None}
use Rattle.pf_model.specs.declared.Tri.{Tri}
use Rattle.pf_rings.specs.Least.{keeper_with}

-- the keeper that is kept of a name
abbrev pub kept_at : List (Option ℕ) → ℕ → Option ℕ
kept_at keepers n = slice_index_or keepers n None

-- what is kept of the name k after an owner at the node n
abbrev pub noted : ℕ → ℕ → ℕ → Option ℕ → Option ℕ
noted n owner k kept = cond (n == k) (keeper_with owner kept) kept

-- what is kept of the name k after a triangle
abbrev pub seen : Tri → ℕ → Option ℕ → Option ℕ
seen t k kept = noted t.c t.owner k (noted t.b t.owner k (noted t.a t.owner k kept))

-- and after these triangles, one after another
abbrev pub gathered : ℕ → Option ℕ → List Tri → Option ℕ
gathered k kept [] = kept
gathered k kept (t ∷ ts) = gathered k (seen t k kept) ts
