-- The one list of all copies that is read off the lists of all names: it is that of the mesh.
use Rattle.std.specs.Prelude.{◌≡◌, ℕ, ◌<◌, List, Contains}
use Rattle.pf_model.specs.Rising.{IsRising}
use Rattle.pf_model.specs.Mesh.{Undivided}
use Rattle.pf_model.specs.Conforming.{IsConforming, IsLive}
use Rattle.pf_model.specs.Stars.{star_of}
use Rattle.pf_star_model.specs.Copies.{Copy, copy_lt, copies_of}
use Rattle.pf_core_model.specs.declared.sharer.Sharer.{Sharer}
use Rattle.pf_core_model.specs.Lists.{In}
use Rattle.pf_core_model.specs.Sharers.{sharers_in}

-- a copy, as it stands in the list of its node
abbrev pub sharer_of : Copy → Sharer
sharer_of x = record { chunk = x.chunk; star = x.star }

-- the list rises by chunk and node, and has exactly the copies of the names below
pub record AreAllCopies (m : Undivided) (names : ℕ) (copies : List Copy) : Type 0 where
  pub rise : IsRising copy_lt copies
  pub only : (x : Copy) → Contains copies x → (n : ℕ) × (n < names) × In (sharer_of x) (sharers_in m.chunks (star_of m n))
  pub all : (n : ℕ) → n < names → (x : Copy) → In (sharer_of x) (sharers_in m.chunks (star_of m n)) → Contains copies x

abbrev pub ClosesWithCopies : Type 0
ClosesWithCopies = (m : Undivided) (names : ℕ) (copies : List Copy) → IsConforming m → ((n : ℕ) → IsLive m n → n < names) → AreAllCopies m names copies → copies ≡ copies_of m
