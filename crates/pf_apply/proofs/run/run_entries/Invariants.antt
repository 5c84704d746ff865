use Rattle.std.proofs.Common.{◌≡◌, None, [], take, drop, vec_capacity}
use Rattle.pf_model.specs.Mesh.{Undivided}
use Rattle.pf_model.specs.Replay.{HasTicketsFrom, first_refusal, replayed}
use Rattle.pf_apply.specs.Run.{IsReached}
use Rattle.pf_apply.proofs.run.run_entries.Given as goal

abbrev pub invariant-loop-entry : goal.invariant-loop-entry
invariant-loop-entry l =
    (l.sites.items ≡ [])
    × (l.tris.items ≡ [])
    × HasTicketsFrom l.entry-index (drop l.entry-index l.entries)
    × ((m : Undivided) → IsReached l.fn.table.sides l.fn.table.nodes.items l.bands l.first_new 0 (vec_capacity l.fn.sites) (vec_capacity l.fn.tris) m
    → (first_refusal m (take l.entry-index l.entries) ≡ None)
    × IsReached l.table.sides l.table.nodes.items l.bands l.first_new l.entry-index (vec_capacity l.sites) (vec_capacity l.tris) (replayed m (take l.entry-index l.entries)))
