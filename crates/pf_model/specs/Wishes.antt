-- Which edges are too long or too short, and what forbids their change: the rest list.
use Rattle.std.specs.Prelude.{◌≡◌, ℕ, zero, suc, ◌*◌, List, [], ◌∷◌, ◌++◌, Bool, true, cond, ◌&&◌, ◌==◌, Option, Some, None, int_lt, length, flat_map, is_none}
use Rattle.pf_model.specs.declared.Op.TheVariants.{Flip, Bisect, Contract}
use Rattle.pf_model.specs.declared.RestLine.{RestLine}
use Rattle.pf_model.specs.declared.RestLine.TheVariants as line
use Rattle.pf_model.specs.declared.Side.{Side}
use Rattle.pf_model.specs.Mesh.{Undivided, side_of, is_edge, len2_at}
use Rattle.pf_model.specs.Lengths.{Edge, longest_of, min2_of, is_long}
use Rattle.pf_model.specs.Sums.{edges_of}
use Rattle.pf_model.specs.Conditions.{first_failing}

-- the owner of the left side, or of the right one where there is none on the left, or 0 where there is none at all
abbrev pub owner_of : Option Side → Option Side → ℕ
owner_of (Some l) right = l.owner
owner_of None (Some r) = r.owner
owner_of None None = 0

-- the acting chunk of an edge: the owner of the triangle left of the direction from the lower to the higher name, or of the
-- other one where there is none on the left
abbrev pub acting_chunk : Undivided → Edge → ℕ
acting_chunk m e = owner_of (side_of m.tris e.lo e.hi) (side_of m.tris e.hi e.lo)

-- the edge is short: below its band's least squared length
abbrev pub is_short : Undivided → ℕ → ℕ → Bool
is_short m a b = int_lt (len2_at m a b) (min2_of m a b)

-- the longest edge of the triangle on this side of the edge, where it is another one
abbrev pub longer_on : Undivided → Edge → Option Side → Option Edge
longer_on m e None = None
longer_on m e (Some s) =
    let f = longest_of m e.lo e.hi s.apex in
    cond (f.lo == e.lo && f.hi == e.hi) None (Some f)

-- the first that there is
abbrev pub either_of : Option Edge → Option Edge → Option Edge
either_of None f = f
either_of (Some e) f = Some e

-- where the walk goes on: to the longest edge of the first triangle that has a longer one, the left one looked at first
abbrev pub next_longer : Undivided → Edge → Option Edge
next_longer m e = either_of (longer_on m e (side_of m.tris e.lo e.hi)) (longer_on m e (side_of m.tris e.hi e.lo))

-- the walk of at most so many moves
abbrev pub walked : ℕ → Undivided → Edge → Edge
walked zero m e = e
walked (suc most) m e = elim (next_longer m e) [ None ↦ e | Some f ↦ walked most m f ]

-- where the walk from an edge ends: an edge that is the longest in all its triangles
abbrev pub terminal_of : Undivided → Edge → Edge
terminal_of m e = walked (3 * length m.tris) m e

-- the edge is in the mesh, the longest in each triangle at it, and the walk stays at it
pub record IsTerminal (m : Undivided) (e : Edge) : Type 0 where
  pub edge : is_edge m.tris e.lo e.hi ≡ true
  pub left : (s : Side) → side_of m.tris e.lo e.hi ≡ Some s → longest_of m e.lo e.hi s.apex ≡ e
  pub right : (s : Side) → side_of m.tris e.hi e.lo ≡ Some s → longest_of m e.lo e.hi s.apex ≡ e
  pub ends : next_longer m e ≡ None

-- the line of a long edge
abbrev pub long_lines : Undivided → Edge → List RestLine
long_lines m e =
    let t = terminal_of m e in
    cond (is_long m e.lo e.hi) (line.Long e.lo e.hi t.lo t.hi (first_failing m (acting_chunk m t) (Bisect t.lo t.hi)) ∷ []) []

-- the line of a short edge
abbrev pub short_lines : Undivided → Edge → List RestLine
short_lines m e =
    let chunk = acting_chunk m e in
    cond (is_short m e.lo e.hi) (line.Short e.lo e.hi (first_failing m chunk (Contract e.lo e.hi)) (first_failing m chunk (Contract e.hi e.lo)) ∷ []) []

-- the line of an edge whose flip passes
abbrev pub flip_lines : Undivided → Edge → List RestLine
flip_lines m e = cond (is_none (first_failing m (acting_chunk m e) (Flip e.lo e.hi))) (line.Flip e.lo e.hi ∷ []) []

-- the rest list: the long edges, the short edges and the edges whose flip passes, each by rising names
abbrev pub rest_of : Undivided → List RestLine
rest_of m = flat_map (long_lines m) (edges_of m) ++ (flat_map (short_lines m) (edges_of m) ++ flat_map (flip_lines m) (edges_of m))
