use Rattle.std.proofs.Common.{◌≡◌, ℕ, Bool, ◌||◌, ◌==◌, length, take}
use Rattle.std.specs.List.{list_any}
use Rattle.pf_assemble.specs.Rows.{AreMarked}
use Rattle.pf_assemble.proofs.rows.mark_all.Given as goal

-- the rows that the list named so far are marked
abbrev pub invariant-list : goal.invariant-list
invariant-list l =
    (length l.rows.items ≡ length l.initial.rows.items)
    × ((p : ℕ → ℕ → Bool) (q : ℕ → Bool) → AreMarked l.initial.rows.items p l.n q → AreMarked l.rows.items p l.n (λ w. list_any (λ k. k == w) (take l.row-index l.list) || q w))
