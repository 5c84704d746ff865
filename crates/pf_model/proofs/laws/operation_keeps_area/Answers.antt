use Rattle.pf_model.proofs.ReplayKeeps.{applied_area}
use Rattle.pf_model.proofs.laws.operation_keeps_area.Goals as goal

pub returns : goal.returns
returns c m e ok fresh passes = applied_area m e.chunk e.ticket e.op ok fresh passes
