use Rattle.std.specs.Prelude.{◌<◌, All}
use Rattle.mesh_tests.proofs.tests.owners_of.Given as goal

abbrev pub invariant-loop-owner : goal.invariant-loop-owner
invariant-loop-owner g l = All (λ owner. owner < l.chunks) l.list.items
