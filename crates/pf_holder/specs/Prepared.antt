-- The copies that an operation owes: made before its ticket is drawn.
use Rattle.std.specs.Prelude.{◌≡◌, ℕ, List, Option}
use Rattle.pf_model.specs.declared.Op.{Op}
use Rattle.pf_model.specs.Stars.{Star}
use Rattle.pf_star_model.specs.Lent.{Held}
use Rattle.pf_star_model.specs.Patched.{patch_of}
use Rattle.pf_ghost.specs.declared.ready.Listed.{Listed}
use Rattle.pf_ghost.specs.Prepared.{ready_of}
use Rattle.pf_ghost.specs.Spread.{later_name}

-- the changed nodes with their new stars, by rising name
abbrev pub fresh_of : (ℕ → Option Star) → Op → List Held
fresh_of lent op = patch_of lent later_name op

-- the lists are those that the operation owes
abbrev pub IsReady : (ℕ → Option Star) → ℕ → Op → List Listed → Type 0
IsReady lent chunks op ready = ready ≡ ready_of chunks (fresh_of lent op)
