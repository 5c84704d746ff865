use Rattle.std.proofs.Common.{◌≡◌, ℕ, Bool, ◌||◌, length, take}
use Rattle.std.specs.List.{list_any}
use Rattle.pf_model.specs.Mesh.{has_corner}
use Rattle.pf_assemble.specs.Placed.{tri_at}
use Rattle.pf_assemble.specs.Rows.{AreMarked}
use Rattle.pf_assemble.proofs.ghosts.mark_listed.Given as goal

-- the corners of the triangles so far are marked
abbrev pub invariant-list : goal.invariant-list
invariant-list l =
    (length l.rows.items ≡ length l.initial.rows.items)
    × ((p : ℕ → ℕ → Bool) (q : ℕ → Bool) → AreMarked l.initial.rows.items p l.chunk q → AreMarked l.rows.items p l.chunk (λ w. list_any (λ i. has_corner w (tri_at l.tris i)) (take l.i-index l.list) || q w))
