-- What a star shows of an edge is what the mesh has, as statements.
use Rattle.std.specs.Prelude.{◌≡◌, ◌≢◌, ℕ, ◌<◌, List, All, true, false, Some, None, min, max}
use Rattle.pf_model.specs.declared.Band.{Band}
use Rattle.pf_model.specs.declared.Op.TheVariants.{Flip}
use Rattle.pf_model.specs.Mesh.{Undivided, is_edge}
use Rattle.pf_model.specs.Lengths.{edge_of, is_long}
use Rattle.pf_model.specs.Conforming.{IsConforming}
use Rattle.pf_model.specs.Conditions.{first_failing}
use Rattle.pf_model.specs.Stars.{Star, star_of, is_neighbour}
use Rattle.pf_model.specs.Wishes.{acting_chunk, is_short, next_longer}
use Rattle.pf_core_model.specs.declared.event.Asked.{Asked}
use Rattle.pf_wishes.specs.First.{first_wish_of}
use Rattle.pf_wishes.specs.Looks.{acting_shown, is_long_shown, is_short_shown, is_shorter_shown, longer_shown}

-- the star shows of the edge what the mesh has
pub record IsOfMesh (m : Undivided) (s : Star) (x : ℕ) : Type 0 where
  pub chunk : acting_shown s x ≡ acting_chunk m (edge_of s.node x)
  pub long : is_long_shown m.bands s x ≡ is_long m (min s.node x) (max s.node x)
  pub short : is_short_shown m.bands s x ≡ is_short m (min s.node x) (max s.node x)
  pub longer : longer_shown s x ≡ next_longer m (edge_of s.node x)

abbrev pub LookIsOfMesh : Type 0
LookIsOfMesh = (m : Undivided) (n x : ℕ) (s : Star) → IsConforming m → star_of m n ≡ Some s → is_neighbour x s.spokes ≡ true → IsOfMesh m s x

-- the neighbours in a star are the nodes to which there is an edge
abbrev pub NeighboursHaveEdges : Type 0
NeighboursHaveEdges = (m : Undivided) (n x : ℕ) (s : Star) → IsConforming m → star_of m n ≡ Some s → is_neighbour x s.spokes ≡ is_edge m.tris n x

-- where the other diagonal isn't shown to be shorter, the flip doesn't pass
abbrev pub NoShorterNoFlip : Type 0
NoShorterNoFlip = (m : Undivided) (n x chunk : ℕ) (s : Star) → IsConforming m → star_of m n ≡ Some s → is_neighbour x s.spokes ≡ true → is_shorter_shown s x ≡ false → first_failing m chunk (Flip (min n x) (max n x)) ≢ None

-- where each of the chunks is below a number, the chunk of a first wish is
abbrev pub FirstWishIsByChunk : Type 0
FirstWishIsByChunk = (bands : List Band) (chunks : List ℕ) (s : Star) (q : Asked) (n : ℕ) → All (λ c. c < n) chunks → first_wish_of bands chunks s ≡ Some q → q.chunk < n
