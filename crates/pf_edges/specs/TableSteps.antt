-- The side of a directed edge of the edge table after triangles are entered and edges removed.
use Rattle.std.specs.Prelude.{◌≡◌, ℕ, Bool, true, false, cond, not, ◌&&◌, ◌||◌, ◌==◌, List, [], ◌∷◌, Option, Some, None}
use Rattle.std.specs.List.{list_any}
use Rattle.pf_model.specs.declared.Tri.{Tri}
use Rattle.pf_model.specs.declared.Side.{Side}
use Rattle.pf_model.specs.Mesh.{has_edge, apex_in}

-- after a triangle is entered
abbrev pub side_with : Tri → ℕ → ℕ → Option Side → Option Side
side_with t p q old = cond (has_edge p q t) (Some record { apex = apex_in p q t; owner = t.owner }) old

-- after the triangles are entered one after another
abbrev pub side_with_all : List Tri → ℕ → ℕ → Option Side → Option Side
side_with_all [] p q old = old
side_with_all (t ∷ new) p q old = side_with_all new p q (side_with t p q old)

-- after it is removed where the test holds and none of the triangles has it
abbrev pub side_without : Bool → List Tri → ℕ → ℕ → Option Side → Option Side
side_without removed new p q old = cond (removed && not (list_any (has_edge p q) new)) None old

-- the directed edge p to q is at u, and is at v too unless all are meant
abbrev pub is_bare : ℕ → ℕ → Bool → ℕ → ℕ → Bool
is_bare u v all p q = (p == u && (all || q == v)) || (q == u && (all || p == v))

-- none of the triangles has such an edge
abbrev pub AreBare : ℕ → ℕ → Bool → List Tri → Type 0
AreBare u v all ts = (p q : ℕ) → is_bare u v all p q ≡ true → list_any (has_edge p q) ts ≡ false

-- after it is removed where both tests hold
abbrev pub side_bare : Bool → Bool → Option Side → Option Side
side_bare removed bare old = cond (removed && bare) None old

-- the directed edge is one of the first list and none of the second
abbrev pub is_removed : List Tri → List Tri → ℕ → ℕ → Bool
is_removed removed new p q = list_any (has_edge p q) removed && not (list_any (has_edge p q) new)
