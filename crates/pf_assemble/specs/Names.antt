-- A number above all corners of triangles.
use Rattle.std.specs.Prelude.{ℕ, ◌+◌, List, [], ◌∷◌, cond, nat_lt}
use Rattle.pf_model.specs.declared.Tri.{Tri}

-- the number, or the least above n where that is more
abbrev pub past : ℕ → ℕ → ℕ
past most n = cond (nat_lt n most) most (n + 1)

-- the number, or the least above all corners where that is more
abbrev pub past_corners : ℕ → List Tri → ℕ
past_corners most [] = most
past_corners most (t ∷ ts) = past_corners (past (past (past most t.a) t.b) t.c) ts
