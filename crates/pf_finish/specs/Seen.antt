-- What is seen of an edge of the mesh, and which of its lines pass.
use Rattle.std.specs.Prelude.{◌≡◌, ◌≢◌, ℕ, List, Bool, true, false, Option, Some, None}
use Rattle.std.specs.Option.{option_map}
use Rattle.pf_model.specs.declared.Band.{Band}
use Rattle.pf_model.specs.declared.Op.TheVariants.{Flip, Bisect, Contract}
use Rattle.pf_model.specs.Mesh.{Undivided, is_edge}
use Rattle.pf_model.specs.Lengths.{Edge, is_long}
use Rattle.pf_model.specs.Conditions.{first_failing}
use Rattle.pf_model.specs.Stars.{Star}
use Rattle.pf_model.specs.Wishes.{acting_chunk, is_short, next_longer, terminal_of}
use Rattle.pf_rules.specs.Lengths.{span_value}
use Rattle.pf_wishes.specs.Looks.{acting_shown, is_long_shown, is_short_shown, is_shorter_shown, longer_shown}
use Rattle.pf_finish.specs.declared.edges.EdgeSeen.{EdgeSeen}

-- where the walk goes on, as it was seen
abbrev pub seen_longer : EdgeSeen → Option Edge
seen_longer l = option_map span_value l.longer

-- what the star shows of the edge to x
pub record IsSeenIn (bands : List Band) (s : Star) (x : ℕ) (l : EdgeSeen) : Type 0 where
  pub chunk : l.chunk ≡ acting_shown s x
  pub long : l.long ≡ is_long_shown bands s x
  pub short : l.short ≡ is_short_shown bands s x
  pub shorter_flip : l.shorter_flip ≡ is_shorter_shown s x
  pub longer : seen_longer l ≡ longer_shown s x

-- the bisection of the edge where the walk of a long edge ends fails
abbrev pub IsLongSettled : Undivided → Edge → Type 0
IsLongSettled m e = is_long m e.lo e.hi ≡ true → first_failing m (acting_chunk m (terminal_of m e)) (Bisect (terminal_of m e).lo (terminal_of m e).hi) ≢ None

-- both contractions of a short edge fail
abbrev pub IsShortSettled : Undivided → Edge → Type 0
IsShortSettled m e = is_short m e.lo e.hi ≡ true → (first_failing m (acting_chunk m e) (Contract e.lo e.hi) ≢ None) × (first_failing m (acting_chunk m e) (Contract e.hi e.lo) ≢ None)

-- the flip of the edge fails
abbrev pub IsFlipSettled : Undivided → Edge → Type 0
IsFlipSettled m e = first_failing m (acting_chunk m e) (Flip e.lo e.hi) ≢ None

-- an edge of the mesh, of which this was seen
pub record IsSeenEdge (m : Undivided) (e : Edge) (l : EdgeSeen) : Type 0 where
  pub edge : is_edge m.tris e.lo e.hi ≡ true
  pub chunk : l.chunk ≡ acting_chunk m e
  pub long : l.long ≡ is_long m e.lo e.hi
  pub short : l.short ≡ is_short m e.lo e.hi
  pub longer : seen_longer l ≡ next_longer m e
  pub flip : l.shorter_flip ≡ false → IsFlipSettled m e

-- what a look at an edge says
abbrev pub LooksAt : Undivided → Edge → Option EdgeSeen → Type 0
LooksAt m e None = is_edge m.tris e.lo e.hi ≡ false
LooksAt m e (Some l) = IsSeenEdge m e l

-- where it is an edge of the mesh, no line of it passes
pub record IsSettledEdge (m : Undivided) (e : Edge) : Type 0 where
  pub long : IsLongSettled m e
  pub short : IsShortSettled m e
  pub flip : IsFlipSettled m e

abbrev pub IsSettled : Undivided → Edge → Type 0
IsSettled m e = is_edge m.tris e.lo e.hi ≡ true → IsSettledEdge m e
