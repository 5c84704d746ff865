use Rattle.pf_cover_model.proofs.Covers.{applied_cover}
use Rattle.pf_cover_model.proofs.operation_keeps_cover.Goals as goal

pub returns : goal.returns
returns c m e ok fresh passes = applied_cover m e ok fresh passes
