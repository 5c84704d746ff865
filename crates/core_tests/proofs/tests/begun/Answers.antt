use Rattle.core_tests.proofs.tests.begun.Goals as goal

pub returns : goal.returns
returns c = record { opening = _; state = _; shown = c.in_ok-state.ensures }
