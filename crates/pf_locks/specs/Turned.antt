-- Slots that are turned.
use Rattle.std.specs.Prelude.{ℕ, zero, suc, List}
use Rattle.atomic_table.specs.Table.{turned}
use Rattle.pf_core_model.specs.declared.sharer.Sharer.{Sharer}

-- the slots, so many times turned
abbrev pub rotated : ℕ → List (ℕ × List Sharer) → List (ℕ × List Sharer)
rotated zero l = l
rotated (suc k) l = turned (rotated k l)
