use Rattle.std.proofs.Common.{◌≡◌, ◌≤◌, ◌+◌, ◌*◌, ℕ, drop}
use Rattle.indexmap.specs.IndexMap.{spare}
use Rattle.pf_edges.specs.Table.{side_at}
use Rattle.pf_edges.specs.TableSteps.{side_with_all}
use Rattle.pf_edges.proofs.table.enter_all.Given as goal

abbrev pub invariant-loop-t : goal.invariant-loop-t
invariant-loop-t l =
    (spare l.fn.sides ≤ spare l.sides + 3 * l.t-index)
    × ((p q : ℕ) → side_with_all (drop l.t-index l.new) p q (side_at l.sides p q) ≡ side_with_all l.new p q (side_at l.fn.sides p q))
