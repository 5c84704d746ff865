-- Edges between neighbours of a node that are outside its star.
use Rattle.std.specs.Prelude.{◌≡◌, ◌≤◌, ℕ, List, Bool, true, false, ◌&&◌, ◌||◌, ◌==◌}
use Rattle.std.specs.List.{list_any}
use Rattle.pf_model.specs.declared.Spoke.{Spoke}
use Rattle.pf_model.specs.Mesh.{Undivided, is_edge}
use Rattle.pf_model.specs.Stars.{is_neighbour, spokes_of}
use Rattle.pf_edge_list.specs.declared.edges.Sided.{Sided}
use Rattle.pf_rules.specs.Contract.{is_link_at}
use Rattle.pf_edge_list.specs.Edges.{IsAbsent, IsOnlyIn}

-- x is one of the names
abbrev pub is_name : ℕ → List ℕ → Bool
is_name x names = list_any (λ y. y == x) names

-- a spoke runs between v and w, one way or the other
abbrev pub is_link_edge : ℕ → ℕ → List Spoke → Bool
is_link_edge v w us = list_any (λ s. (s.right == v && s.left == w) || (s.right == w && s.left == v)) us

-- an edge that could stand in this block alone stands nowhere
abbrev pub IsMissing : List Sided → ℕ → ℕ → ℕ → ℕ → Type 0
IsMissing edges v w from to = IsOnlyIn edges record { lo = v; hi = w } from to → IsAbsent edges record { lo = v; hi = w }

-- of these names, v shares an edge with no higher one but where a spoke runs between the two
pub record IsClear (m : Undivided) (us : List Spoke) (names : List ℕ) (v : ℕ) : Type 0 where
  pub each : (w : ℕ) → v ≤ w → is_name w names ≡ true → is_link_edge v w us ≡ false → is_edge m.tris v w ≡ false

-- no neighbour of u is a link node of its contraction onto another
abbrev pub IsUncrossed : Undivided → ℕ → List Spoke → Type 0
IsUncrossed m u us = (v x : ℕ) → is_neighbour v us ≡ true → is_neighbour x us ≡ true → is_link_at m u v (spokes_of m v) x ≡ false
