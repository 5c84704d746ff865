-- A board at its end: the copies of all names, and what the counting of them leaves.
use Rattle.std.specs.Prelude.{◌≡◌, ◌⊎◌, ℕ, zero, suc, ◌+◌, ◌<◌, ◌≤◌, List, [], ◌∷◌, ◌++◌, length, map, slice_index_or}
use Rattle.pf_model.specs.Mesh.{Undivided}
use Rattle.pf_model.specs.Stars.{star_of}
use Rattle.pf_star_model.specs.Copies.{Copy, copies_of}
use Rattle.pf_star.specs.declared.copies.ChunkCopy.{ChunkCopy}
use Rattle.pf_star.specs.declared.copies.Copies.{Copies}
use Rattle.pf_core_model.specs.declared.sharer.Sharer.{Sharer}
use Rattle.pf_core_model.specs.declared.view.View.{View}
use Rattle.pf_core_model.specs.Sharers.{sharers_in}

-- a copy in the list of its node, as what it is
abbrev pub shown_sharer : Sharer → Copy
shown_sharer s = record { chunk = s.chunk; star = s.star }

-- a copy of a chunk, as what it is
abbrev pub shown_copy : ChunkCopy → Copy
shown_copy c = record { chunk = c.chunk; star = c.star }

-- the copies in the list of a node, the last one first
abbrev pub copies_back : List Sharer → List Copy
copies_back [] = []
copies_back (s ∷ ss) = copies_back ss ++ shown_sharer s ∷ []

-- the copies in the lists of the names below n, name by name
abbrev pub copies_under : (ℕ → List Sharer) → ℕ → List Copy
copies_under f zero = []
copies_under f (suc n) = copies_under f n ++ copies_back (f n)

-- the list at a place, or none
abbrev pub list_at : List (List Sharer) → ℕ → List Sharer
list_at ls k = slice_index_or ls k []

-- the copies of a mesh at the names below n
abbrev pub copies_below : Undivided → ℕ → List Copy
copies_below m n = copies_under (λ k. sharers_in m.chunks (star_of m k)) n

-- the view is as before but for finds
abbrev pub IsButFinds : View → View → Type 0
IsButFinds v w = (dead : List ℕ) × (never : List ℕ) × (w ≡ record v { dead = dead; never = never })

-- a copy stands before the other by chunk and node, or at the same place
abbrev pub IsNotAfter : ChunkCopy → ChunkCopy → Type 0
IsNotAfter x y = (x.chunk < y.chunk) ⊎ ((x.chunk ≡ y.chunk) × (x.star.node ≤ y.star.node))

abbrev pub AreCopiesInOrder : List ChunkCopy → Type 0
AreCopiesInOrder cs = (k : ℕ) (d : ChunkCopy) → k + 1 < length cs → IsNotAfter (slice_index_or cs k d) (slice_index_or cs (k + 1) d)

-- the copies are those of the mesh, with its first new name, its bands and its chunks
pub record AreCopiesOf (m : Undivided) (copies : Copies) : Type 0 where
  pub first_new : copies.first_new ≡ m.first_new
  pub bands : copies.bands.items ≡ m.bands
  pub chunks : copies.chunks ≡ m.chunks
  pub list : map shown_copy copies.list.items ≡ copies_of m
