use Rattle.pf_model.proofs.Replays.{names-fresh}
use Rattle.pf_model.proofs.laws.names_stay_fresh.Goals as goal

pub returns : goal.returns
returns c m es f h = names-fresh m es f h
