-- The node that an operation makes, and the neighbours in a star.
use Rattle.std.specs.Prelude.{ℕ, ◌+◌, List, Bool, true, false, ◌&&◌, ◌==◌, Option}
use Rattle.std.specs.List.{list_any}
use Rattle.pf_model.specs.declared.Op.{Op}
use Rattle.pf_model.specs.declared.Op.TheVariants.{Flip, Bisect, Contract}
use Rattle.pf_model.specs.declared.Entry.{Entry}
use Rattle.pf_model.specs.Stars.{Star}
use Rattle.pf_model.specs.Conditions.{neighbours}
use Rattle.pf_star_model.specs.Lent.{spokes_in}

-- the operation makes a node
abbrev pub makes_node : Op → Bool
makes_node (Flip a b) = false
makes_node (Bisect a b) = true
makes_node (Contract u v) = false

-- the entry makes the node n
abbrev pub makes : ℕ → ℕ → Entry → Bool
makes first_new n e = makes_node e.op && (first_new + e.ticket == n)

-- some entry of the history makes the node n
abbrev pub is_made : ℕ → List Entry → ℕ → Bool
is_made first_new log n = list_any (makes first_new n) log

-- the neighbours in a star
abbrev pub neighbours_in : Option Star → List ℕ
neighbours_in star = neighbours (spokes_in star)
