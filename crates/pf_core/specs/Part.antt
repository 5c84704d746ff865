-- What is read of all names: the triangles all of whose corners are free, and how many names have which word.
use Rattle.std.specs.Prelude.{ℕ, zero, suc, List, [], ◌∷◌, ◌++◌, Bool, cond, ◌&&◌, ◌==◌, nat_lt, length, map, filter}
use Rattle.pf_model.specs.declared.Spoke.{Spoke}
use Rattle.pf_model.specs.declared.Tri.{Tri}
use Rattle.pf_star_model.specs.Lent.{spokes_in}
use Rattle.pf_core_model.specs.Sharers.{kept_in}
use Rattle.pf_core.specs.declared.tables.Node.{Node}
use Rattle.pf_core.specs.declared.counts.Counts.{Counts}
use Rattle.pf_core.specs.Tables.{node_at, code_seen, code_in}

-- the name is that of a free node
abbrev pub is_free_at : List Node → ℕ → Bool
is_free_at nodes n = code_seen nodes n == 0

-- the spoke's triangle begins at n, and its other corners are free
abbrev pub is_free_spoke : List Node → ℕ → Spoke → Bool
is_free_spoke nodes n s = (nat_lt n s.right && nat_lt n s.left) && (is_free_at nodes s.right && is_free_at nodes s.left)

abbrev pub tri_for : ℕ → Spoke → Tri
tri_for n s = record { a = n; b = s.right; c = s.left; owner = s.owner }

-- the triangles of these spokes of n that are free
abbrev pub tris_at : List Node → ℕ → List Spoke → List Tri
tris_at nodes n [] = []
tris_at nodes n (s ∷ ss) = cond (is_free_spoke nodes n s) (tri_for n s ∷ tris_at nodes n ss) (tris_at nodes n ss)

-- those that begin at n
abbrev pub tris_from : List Node → ℕ → List Tri
tris_from nodes n = cond (is_free_at nodes n) (tris_at nodes n (spokes_in (kept_in (node_at nodes n).list))) []

-- those that begin at the names from this one on
abbrev pub part_from : List Node → ℕ → ℕ → List Tri
part_from nodes n zero = []
part_from nodes n (suc more) = tris_from nodes n ++ part_from nodes (suc n) more

-- how many names have a word that passes
abbrev pub count_codes : (ℕ → Bool) → List Node → ℕ
count_codes test nodes = length (filter test (map code_in nodes))

abbrev pub counts_in : Counts → List ℕ
counts_in k = k.free ∷ k.held ∷ k.dead ∷ k.never ∷ []
