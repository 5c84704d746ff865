-- What the hasher of the edge table computes.
use Rattle.std.specs.Prelude.{ℕ, ◌+◌, ◌*◌, ◌/◌, ◌%◌, List, [], ◌∷◌, cond, nat_lt, length, slice_index, min, max}
use Rattle.std.specs.Int.{w64, from_le_bytes}
use Rattle.pf_edges.specs.declared.hasher.EdgeHasher.{EdgeHasher}

-- the hasher before the first write
abbrev pub no_place : EdgeHasher
no_place = record { place = 0 }

-- the first eight bytes as one number, the lowest first
abbrev pub word_of : List ℕ → ℕ
word_of bytes = from_le_bytes w64 (slice_index bytes 0 ∷ slice_index bytes 1 ∷ slice_index bytes 2 ∷ slice_index bytes 3
    ∷ slice_index bytes 4 ∷ slice_index bytes 5 ∷ slice_index bytes 6 ∷ slice_index bytes 7 ∷ [])

-- the hasher after these bytes: their place, or 0 where they are too few
abbrev pub placed : List ℕ → EdgeHasher
placed bytes = record { place = cond (nat_lt (length bytes) 8) 0 (word_of bytes) }

-- the place of a directed edge: both directions lie side by side, and edges whose lower names are neighbours in neighbouring
-- groups, as long as their higher names are in the same run of 64; the upper eight bits tell the rest of the higher name and the direction
abbrev pub place_of_edge : ℕ → ℕ → ℕ
place_of_edge from to = (min from to + max from to / 64 * 1382478937 + max from to % 64 * 16777216 + cond (nat_lt from to) 1 0 * 2147483648) % 4294967296
