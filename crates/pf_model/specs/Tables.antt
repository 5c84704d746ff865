-- A partition and a size table laid over a mesh.
-- A place of the list is a list of three corners, as the list has that the mesh is built of.
use Rattle.std.specs.Prelude.{◌≡◌, ℕ, List, [], ◌∷◌, Bool, true, cond, ◌&&◌, ◌||◌, ◌==◌, map, Contains, slice_index}
use Rattle.std.specs.List.{list_any}
use Rattle.pf_model.specs.declared.Tri.{Tri}
use Rattle.pf_model.specs.declared.Band.{Band}
use Rattle.pf_model.specs.Mesh.{Undivided}

-- the place has the corners p, q, z in this order
abbrev pub stand_as : ℕ → ℕ → ℕ → List ℕ → Bool
stand_as p q z corners = slice_index corners 0 == p && (slice_index corners 1 == q && slice_index corners 2 == z)

-- the place has the corners p, q, z, from one of them on
abbrev pub stand_round : ℕ → ℕ → ℕ → List ℕ → Bool
stand_round p q z corners = stand_as p q z corners || (stand_as q z p corners || stand_as z p q corners)

-- the place has the corners p, q, z in any order
abbrev pub are_corners : ℕ → ℕ → ℕ → List ℕ → Bool
are_corners p q z corners = stand_round p q z corners || stand_round q p z corners

-- the owner of the first place with the corners p, q, z, and the last argument where none has them
abbrev pub owner_listed : List (List ℕ) → List ℕ → ℕ → ℕ → ℕ → ℕ → ℕ
owner_listed [] owners p q z own = own
owner_listed (place ∷ listed) [] p q z own = own
owner_listed (place ∷ listed) (owner ∷ owners) p q z own = cond (are_corners p q z place) owner (owner_listed listed owners p q z own)

-- the triangle with its owner by the list
abbrev pub owned_as : List (List ℕ) → List ℕ → Tri → Tri
owned_as listed owners t = record t { owner = owner_listed listed owners t.a t.b t.c t.owner }

-- each triangle has a place in the list, with its corners in any order
abbrev pub AreListed : List (List ℕ) → List Tri → Type 0
AreListed listed ts = (t : Tri) → Contains ts t → list_any (are_corners t.a t.b t.c) listed ≡ true

-- the mesh with owners by the list, in so many chunks, and with these bands; sites and corners stay
abbrev pub with_tables_of : List (List ℕ) → List ℕ → ℕ → List Band → Undivided → Undivided
with_tables_of listed owners chunks bands m = record m { tris = map (owned_as listed owners) m.tris; bands = bands; chunks = chunks }
