use Rattle.std.proofs.Common.{◌≤◌}
use Rattle.pf_model.specs.Applied.{IsFresh}
use Rattle.sum_tests.proofs.tests.random.adapt.Given as goal

abbrev pub invariant-loop-turn : goal.invariant-loop-turn
invariant-loop-turn l =
    record {
      fresh : IsFresh l.mesh.mesh l.ticket;
      few : l.mesh.mesh.first_new ≤ 1000;
      early : l.ticket ≤ l.turn;
    }
