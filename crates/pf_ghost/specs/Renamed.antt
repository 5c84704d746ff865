-- Copies with one name in the place of another.
use Rattle.std.specs.Prelude.{ℕ}
use Rattle.pf_star_model.specs.Patched.{renamed_star}
use Rattle.pf_core_model.specs.declared.sharer.Sharer.{Sharer}

abbrev pub renamed_sharer : ℕ → ℕ → Sharer → Sharer
renamed_sharer old new s = record { chunk = s.chunk; star = renamed_star old new s.star }
