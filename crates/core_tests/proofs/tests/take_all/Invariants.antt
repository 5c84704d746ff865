use Rattle.pf_core.specs.Shown.{IsShownState}
use Rattle.core_tests.proofs.tests.take_all.Given as goal

abbrev pub invariant-loop-event : goal.invariant-loop-event
invariant-loop-event g l = IsShownState l.state
