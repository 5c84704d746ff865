use Rattle.std.proofs.Common.{◌≡◌, drop}
use Rattle.pf_model.specs.Applied.{IsFresh}
use Rattle.pf_model.specs.Replay.{HasTicketsFrom}
use Rattle.mesh_tests.proofs.tests.runs.one_by_one.Given as goal

abbrev pub invariant-loop-entry : goal.invariant-loop-entry
invariant-loop-entry l =
    (l.mesh.mesh.first_new ≡ l.fn.mesh.mesh.first_new)
    × IsFresh l.mesh.mesh l.entry-index
    × HasTicketsFrom l.entry-index (drop l.entry-index l.entries)
