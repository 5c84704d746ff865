-- What a board has of each name at its start.
use Rattle.std.specs.Prelude.{ℕ, List, [], ◌∷◌, ◌==◌, cond, nat_lt, Some, is_some}
use Rattle.pf_model.specs.Mesh.{Undivided, point_of}
use Rattle.pf_model.specs.Stars.{Star}
use Rattle.pf_core_model.specs.Core.{Opening}
use Rattle.pf_core_model.specs.declared.sharer.Sharer.{Sharer}
use Rattle.pf_core_model.specs.Sharers.{sharers_in}

abbrev pub start_word : Undivided → ℕ → ℕ
start_word m n = cond (nat_lt n m.first_new) (cond (is_some (point_of m.sites n)) 0 1) 2

-- the list of the node n once the copies of each of these stars were put over the lists of all nodes
abbrev pub placed_lists : ℕ → List Star → (ℕ → List Sharer) → ℕ → List Sharer
placed_lists chunks [] old n = old n
placed_lists chunks (s ∷ ss) old n = cond (n == s.node) (sharers_in chunks (Some s)) (placed_lists chunks ss old n)

-- the opening with this mesh
abbrev pub opening_of : Undivided → ℕ → ℕ → Opening
opening_of m budget workers = record { mesh = m; budget = budget; workers = workers }
