-- What the star of an end shows of an edge: of the edge from the star's node to x, as seen from the lower to the higher name.
-- Where x and the apexes stand is said by the spokes of the two triangles at the edge.
use Rattle.std.specs.Prelude.{◌≡◌, ℕ, ℤ, pos, ◌*ℤ◌, List, [], Bool, false, cond, nat_lt, int_lt, Option, Some, None, find}
use Rattle.pf_geom.specs.declared.Point.{Point}
use Rattle.pf_geom.specs.Plane.{len2_of}
use Rattle.pf_model.specs.declared.Band.{Band}
use Rattle.pf_model.specs.declared.Side.{Side}
use Rattle.pf_model.specs.declared.Spoke.{Spoke}
use Rattle.pf_model.specs.Lengths.{Edge, edge_of, holds_middle}
use Rattle.pf_model.specs.Stars.{Star}
use Rattle.pf_model.specs.Wishes.{owner_of, longer_on, either_of}
use Rattle.pf_star_model.specs.Lent.{side_to, side_from, sight_of}
use Rattle.pf_rings.specs.Points.{first_to, first_from}
use Rattle.pf_wishes.specs.declared.edge_sights.EdgeLook.{EdgeLook}

-- the triangle left of the edge, and the one right of it
abbrev pub left_shown : Star → ℕ → Option Side
left_shown s x = cond (nat_lt s.node x) (side_to x s.spokes) (side_from x s.spokes)

abbrev pub right_shown : Star → ℕ → Option Side
right_shown s x = cond (nat_lt s.node x) (side_from x s.spokes) (side_to x s.spokes)

-- the acting chunk
abbrev pub acting_shown : Star → ℕ → ℕ
acting_shown s x = owner_of (left_shown s x) (right_shown s x)

-- where x stands: by the first spoke to it, or the first from it where there is none to it, or else the origin
abbrev pub place_by : Option Spoke → Option Spoke → Point
place_by (Some to) from = to.right_at
place_by None (Some from) = from.left_at
place_by None None = record { x = pos 0; y = pos 0 }

abbrev pub place_shown : Star → ℕ → Point
place_shown s x = place_by (first_to x s.spokes) (first_from x s.spokes)

-- the squared length
abbrev pub length_shown : Star → ℕ → ℤ
length_shown s x = len2_of s.at (place_shown s x)

-- the band
abbrev pub band_shown : List Band → Star → ℕ → Option Band
band_shown bands s x = find (holds_middle s.at (place_shown s x)) bands

-- a squared length is above what the band allows, above twice that, or below it
abbrev pub is_above : Option Band → ℤ → Bool
is_above None len2 = false
is_above (Some row) len2 = int_lt row.max2 len2

abbrev pub is_far_above : Option Band → ℤ → Bool
is_far_above None len2 = false
is_far_above (Some row) len2 = int_lt (pos 2 *ℤ row.max2) len2

abbrev pub is_below : Option Band → ℤ → Bool
is_below None len2 = int_lt len2 (pos 0)
is_below (Some row) len2 = int_lt len2 row.min2

-- the edge is long, far too long, or short
abbrev pub is_long_shown : List Band → Star → ℕ → Bool
is_long_shown bands s x = is_above (band_shown bands s x) (length_shown s x)

abbrev pub is_far_shown : List Band → Star → ℕ → Bool
is_far_shown bands s x = is_far_above (band_shown bands s x) (length_shown s x)

abbrev pub is_short_shown : List Band → Star → ℕ → Bool
is_short_shown bands s x = is_below (band_shown bands s x) (length_shown s x)

-- there are two triangles at the edge, and their apexes are nearer to one another than a squared length says
abbrev pub is_across_below : Option Spoke → Option Spoke → ℤ → Bool
is_across_below (Some to) (Some from) len2 = int_lt (len2_of to.left_at from.right_at) len2
is_across_below (Some to) None len2 = false
is_across_below None from len2 = false

-- there are two triangles at the edge, and the other diagonal is strictly shorter
abbrev pub is_shorter_shown : Star → ℕ → Bool
is_shorter_shown s x = is_across_below (first_to x s.spokes) (first_from x s.spokes) (length_shown s x)

-- where the walk to the longest edge goes on, by all that the star shows
abbrev pub longer_shown : Star → ℕ → Option Edge
longer_shown s x =
    let m = sight_of [] (Some s) in
    either_of (longer_on m (edge_of s.node x) (left_shown s x)) (longer_on m (edge_of s.node x) (right_shown s x))

-- what is shown of the edge
pub record IsLook (bands : List Band) (s : Star) (x : ℕ) (e : EdgeLook) : Type 0 where
  pub chunk : e.chunk ≡ acting_shown s x
  pub long : e.long ≡ is_long_shown bands s x
  pub far : e.far ≡ is_far_shown bands s x
  pub short : e.short ≡ is_short_shown bands s x
  pub shorter_flip : e.shorter_flip ≡ is_shorter_shown s x
