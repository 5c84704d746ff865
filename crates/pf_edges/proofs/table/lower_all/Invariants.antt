use Rattle.std.proofs.Common.{◌≡◌, ◌≤◌, ◌-◌, ℕ, drop}
use Rattle.std.specs.Prelude.{All, vec_capacity}
use Rattle.pf_model.specs.Exchange.{IsTurned, number_at}
use Rattle.pf_edges.specs.Table.{triangles_at, HasSamePlaces}
use Rattle.pf_edges.proofs.table.lower_all.Given as goal

abbrev pub invariant-loop-t : goal.invariant-loop-t
invariant-loop-t l =
    HasSamePlaces l.fn.nodes.items l.nodes.items
    × (vec_capacity l.fn.nodes ≤ vec_capacity l.nodes)
    × (All IsTurned l.removed → (n : ℕ) → triangles_at l.nodes.items n - number_at n (drop l.t-index l.removed) ≡ triangles_at l.fn.nodes.items n - number_at n l.removed)
