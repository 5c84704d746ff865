-- The numbers of an operation.
use Rattle.std.specs.Prelude.{ℕ, ◌≤◌}
use Rattle.pf_model.specs.declared.Op.{Op}
use Rattle.pf_model.specs.Ends.{first_end, second_end}

-- both names are at most this
abbrev pub IsNamedWithin : ℕ → Op → Type 0
IsNamedWithin most op = (first_end op ≤ most) × (second_end op ≤ most)
