use Rattle.std.proofs.Common.{◌≡◌, ℕ, Bool, length}
use Rattle.pf_assemble.specs.Rows.{AreTaken}
use Rattle.pf_assemble.proofs.rows.transposed.Given as goal

-- the new rows have the rows gone over
abbrev pub invariant-rows : goal.invariant-rows
invariant-rows l =
    (length l.new.items ≡ l.count)
    × ((p : ℕ → ℕ → Bool) → AreTaken l.rows p l.count → AreTaken l.new.items (λ n w. p w n) l.row)
