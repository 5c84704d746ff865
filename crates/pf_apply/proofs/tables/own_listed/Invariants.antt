use Rattle.std.proofs.Common.{◌≡◌, ◌≤◌, ℕ, drop, length}
use Rattle.std.specs.Option.{option_map}
use Rattle.indexmap.specs.IndexMap.{index_map_len}
use Rattle.pf_edges.specs.Table.{side_at}
use Rattle.pf_apply.specs.Tables.{owned_side}
use Rattle.pf_apply.proofs.tables.own_listed.Given as goal

abbrev pub invariant-loop-left : goal.invariant-loop-left
invariant-loop-left l =
    (l.left ≤ length l.fn.listed)
    × (index_map_len l.sides ≡ index_map_len l.fn.sides)
    × ((a b : ℕ) → side_at l.sides a b ≡ option_map (owned_side (drop l.left l.fn.listed) (drop l.left l.fn.owners) a b) (side_at l.fn.sides a b))

abbrev pub decreases-loop-left : goal.decreases-loop-left
decreases-loop-left l = l.left
