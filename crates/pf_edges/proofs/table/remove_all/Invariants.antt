use Rattle.std.proofs.Common.{◌≡◌, ◌≤◌, ℕ, drop}
use Rattle.std.specs.List.{list_any}
use Rattle.indexmap.specs.IndexMap.{spare}
use Rattle.pf_model.specs.Mesh.{has_edge}
use Rattle.pf_edges.specs.Table.{side_at}
use Rattle.pf_edges.specs.TableSteps.{side_without}
use Rattle.pf_edges.proofs.table.remove_all.Given as goal

abbrev pub invariant-loop-t : goal.invariant-loop-t
invariant-loop-t l =
    (spare l.fn.sides ≤ spare l.sides)
    × ((p q : ℕ) → side_without (list_any (has_edge p q) (drop l.t-index l.removed)) l.new p q (side_at l.sides p q) ≡ side_without (list_any (has_edge p q) l.removed) l.new p q (side_at l.fn.sides p q))
