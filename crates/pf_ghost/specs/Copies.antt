-- A star as the copy of one chunk.
use Rattle.std.specs.Prelude.{ℕ, List, [], ◌∷◌, Option, Some, None}
use Rattle.pf_model.specs.Stars.{Star}
use Rattle.pf_core_model.specs.declared.sharer.Sharer.{Sharer}

-- the copy for a chunk, where there is one
abbrev pub copy_for : Option ℕ → Star → List Sharer
copy_for None s = []
copy_for (Some chunk) s = record { chunk = chunk; star = s } ∷ []
