-- The steps of laying owners over a mesh.
use Rattle.std.specs.Prelude.{ℕ, List, [], ◌∷◌, Bool, cond, Option, Some, None}
use Rattle.pf_model.specs.declared.Tri.{Tri}
use Rattle.pf_model.specs.declared.Side.{Side}
use Rattle.pf_model.specs.Tables.{owner_listed}
use Rattle.pf_edges.specs.Table.{Sides, side_at}

-- three corners as a place of a list
abbrev pub three : ℕ → ℕ → ℕ → List ℕ
three p q z = p ∷ q ∷ z ∷ []

-- the side with another owner, where the test says so
abbrev pub owned_if : Bool → ℕ → Side → Side
owned_if test owner s = record s { owner = cond test owner s.owner }

-- the side of the directed edge p to q with its owner by the list
abbrev pub owned_side : List (List ℕ) → List ℕ → ℕ → ℕ → Side → Side
owned_side listed owners p q s = record s { owner = owner_listed listed owners p q s.apex s.owner }

-- the owner of a side, and another where there is none
abbrev pub owner_or : ℕ → Option Side → ℕ
owner_or own None = own
owner_or own (Some s) = s.owner

-- the triangle with the owner that the table has
abbrev pub owned_by_table : Sides → Tri → Tri
owned_by_table sides t = record t { owner = owner_or t.owner (side_at sides t.a t.b) }
