-- The place of a triangle in a list that rises by corners.
use Rattle.std.specs.Prelude.{◌≡◌, ℕ, ◌<◌, ◌≤◌, true, false, List, length, slice_index_or}
use Rattle.pf_model.specs.declared.Tri.{Tri}
use Rattle.pf_model.specs.Mesh.{tri_lt}

-- so many triangles of the list are not after this one, and they stand first
pub record IsRank (t : Tri) (ts : List Tri) (r : ℕ) : Type 0 where
  pub within : r ≤ length ts
  pub before : (k : ℕ) (d : Tri) → k < r → tri_lt t (slice_index_or ts k d) ≡ false
  pub from : (k : ℕ) (d : Tri) → r ≤ k → k < length ts → tri_lt t (slice_index_or ts k d) ≡ true
