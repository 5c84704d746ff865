-- Where a chunk's copy stands in a list of copies.
use Rattle.std.specs.Prelude.{ℕ, suc, List, [], ◌∷◌, Bool, false, cond, ◌==◌, nat_lt}
use Rattle.pf_core_model.specs.declared.sharer.Sharer.{Sharer}

-- how many copies come before that of the chunk
abbrev pub index_of : ℕ → List Sharer → ℕ
index_of chunk [] = 0
index_of chunk (s ∷ ss) = cond (nat_lt s.chunk chunk) (suc (index_of chunk ss)) 0

-- the chunk has a copy in a rising list
abbrev pub has_copy : ℕ → List Sharer → Bool
has_copy chunk [] = false
has_copy chunk (s ∷ ss) = cond (nat_lt s.chunk chunk) (has_copy chunk ss) (s.chunk == chunk)
