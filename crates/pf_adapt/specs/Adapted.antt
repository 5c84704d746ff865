-- What an adaptation gives of a mesh.
use Rattle.std.specs.Prelude.{◌≡◌, ◌≤◌, ◌⊎◌, ℕ, List, [], ◌∷◌, length, Bool, true, false, not, ◌&&◌, ◌||◌, ◌==◌}
use Rattle.std.specs.List.{list_any}
use Rattle.pf_model.specs.declared.Tri.{Tri}
use Rattle.pf_model.specs.declared.Entry.{Entry}
use Rattle.pf_model.specs.declared.RestLine.{RestLine}
use Rattle.pf_model.specs.Applied.{applied}
use Rattle.pf_model.specs.Ends.{first_end, second_end}
use Rattle.pf_model.specs.Mesh.{Undivided, has_edge}
use Rattle.pf_model.specs.Replay.{replayed, IsLegal}
use Rattle.pf_finish.specs.Passing.{passes, has_passing}

-- no line of this rest list passes
abbrev pub is_quiet : List RestLine → Bool
is_quiet lines = not (list_any passes lines)

-- no line of the mesh's rest list passes, or as many operations were made as there may be
abbrev pub HasEnded : Undivided → ℕ → ℕ → Type 0
HasEnded m budget made = (has_passing m ≡ false) ⊎ (made ≡ budget)

-- the chunk owns a triangle at the edge with these names
abbrev pub owns_edge : ℕ → ℕ → ℕ → List Tri → Bool
owns_edge c a b ts = list_any (λ t. t.owner == c && (has_edge a b t || has_edge b a t)) ts

-- the chunk of each entry owns a triangle at the entry's edge, on the replay of those before it
abbrev pub OwnEdges : Undivided → List Entry → Type 0
OwnEdges m [] = Unit {0}
OwnEdges m (e ∷ es) = (owns_edge e.chunk (first_end e.op) (second_end e.op) m.tris ≡ true) × OwnEdges (applied m e) es

-- The journal is legal from the mesh, and no longer than the budget, and each entry's chunk owns a triangle at its edge. At
-- its end no line of the rest list passes, or the budget is spent.
pub record IsAdapted (m : Undivided) (budget : ℕ) (journal : List Entry) : Type 0 where
  pub legal : IsLegal m journal
  pub within : length journal ≤ budget
  pub owned : OwnEdges m journal
  pub ended : HasEnded (replayed m journal) budget (length journal)
