use Rattle.std.proofs.Common.{◌≡◌, ℕ, ◌<◌, [], length, slice_index_or, Vec, Global}
use Rattle.pf_assemble.proofs.rows.rows_of.Given as goal

-- as many empty rows as there were turns
abbrev pub invariant-rows : goal.invariant-rows
invariant-rows l =
    (length l.rows.items ≡ l.row)
    × ((w : ℕ) (d : Vec ℕ Global) → w < length l.rows.items → (slice_index_or l.rows.items w d).items ≡ [])
