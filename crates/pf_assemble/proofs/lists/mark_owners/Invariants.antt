use Rattle.std.proofs.Common.{◌≡◌, ℕ, Bool, ◌||◌, length, take}
use Rattle.pf_model.specs.Stars.{is_sharer}
use Rattle.pf_assemble.specs.Rows.{AreMarked}
use Rattle.pf_assemble.proofs.lists.mark_owners.Given as goal

-- the owners of the spokes so far are marked
abbrev pub invariant-spokes : goal.invariant-spokes
invariant-spokes l =
    (length l.rows.items ≡ length l.initial.rows.items)
    × ((p : ℕ → ℕ → Bool) (q : ℕ → Bool) → AreMarked l.initial.rows.items p l.place q → AreMarked l.rows.items p l.place (λ w. is_sharer w (take l.s-index l.spokes) || q w))
