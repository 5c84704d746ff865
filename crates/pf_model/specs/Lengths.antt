-- The order of edges by length, and the band of an edge.
-- Each edge of a conforming mesh has a band, since the last one holds every point.
use Rattle.std.specs.Prelude.{ℕ, ℤ, pos, ◌+ℤ◌, ◌*ℤ◌, Bool, false, cond, ◌&&◌, ◌||◌, ◌==◌, nat_lt, Option, Some, None, int_lt, int_le, find, min, max}
use Rattle.std.specs.Ordering.{int_eq}
use Rattle.pf_geom.specs.declared.Point.{Point}
use Rattle.pf_model.specs.declared.Band.{Band}
use Rattle.pf_model.specs.Mesh.{Undivided, place_of, len2_at}

-- an edge, the lower name first
pub record Edge : Type 0 where
  pub lo : ℕ
  pub hi : ℕ

abbrev pub edge_of : ℕ → ℕ → Edge
edge_of a b = record { lo = min a b; hi = max a b }

-- the second edge is longer: by squared length, then lower name, then higher name
abbrev pub is_longer : Undivided → Edge → Edge → Bool
is_longer m e f =
    int_lt (len2_at m e.lo e.hi) (len2_at m f.lo f.hi)
    || (int_eq (len2_at m e.lo e.hi) (len2_at m f.lo f.hi) && (nat_lt e.lo f.lo || (e.lo == f.lo && nat_lt e.hi f.hi)))

-- the longer of two edges
abbrev pub longer_of : Undivided → Edge → Edge → Edge
longer_of m e f = cond (is_longer m e f) f e

-- the longest edge of the triangle p, q, z
abbrev pub longest_of : Undivided → ℕ → ℕ → ℕ → Edge
longest_of m p q z = longer_of m (longer_of m (edge_of p q) (edge_of q z)) (edge_of z p)

-- the band holds the middle of a and b
abbrev pub holds_middle : Point → Point → Band → Bool
holds_middle a b row =
    int_le (pos 2 *ℤ row.xlo) (a.x +ℤ b.x) && (int_le (a.x +ℤ b.x) (pos 2 *ℤ row.xhi)
    && (int_le (pos 2 *ℤ row.ylo) (a.y +ℤ b.y) && int_le (a.y +ℤ b.y) (pos 2 *ℤ row.yhi)))

-- the band of an edge: the first that holds its middle
abbrev pub band_of : Undivided → ℕ → ℕ → Option Band
band_of m a b = find (holds_middle (place_of m a) (place_of m b)) m.bands

-- the squared length that an edge is to have at least
abbrev pub min2_of : Undivided → ℕ → ℕ → ℤ
min2_of m a b = elim (band_of m a b) [ None ↦ pos 0 | Some row ↦ row.min2 ]

-- the edge is long: above its band's greatest squared length
abbrev pub is_long : Undivided → ℕ → ℕ → Bool
is_long m a b = elim (band_of m a b) [ None ↦ false | Some row ↦ int_lt row.max2 (len2_at m a b) ]
