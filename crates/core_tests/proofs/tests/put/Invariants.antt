use Rattle.pf_core.specs.Shown.{IsShownState}
use Rattle.core_tests.proofs.tests.put.Given as goal

abbrev pub invariant-loop-n : goal.invariant-loop-n
invariant-loop-n g l = IsShownState l.state
