use Rattle.pf_model.proofs.ReplayKeeps.{applied_conforms}
use Rattle.pf_model.proofs.laws.operation_keeps_conforming.Goals as goal

pub returns : goal.returns
returns c m e ok fresh passes = applied_conforms m e.chunk e.ticket e.op ok fresh passes
