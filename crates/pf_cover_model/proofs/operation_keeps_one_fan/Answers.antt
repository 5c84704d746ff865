use Rattle.pf_cover_model.proofs.FanKeeps.{applied_fans}
use Rattle.pf_cover_model.proofs.operation_keeps_one_fan.Goals as goal

pub returns : goal.returns
returns c m e ok fresh passes = applied_fans m e ok fresh passes
