use Rattle.pf_cover_model.proofs.FanKeeps.{replayed_fans}
use Rattle.pf_cover_model.proofs.journal_keeps_one_fan.Goals as goal

pub returns : goal.returns
returns c m entries ok fresh legal = replayed_fans m entries ok fresh legal
