use Rattle.pf_model.proofs.Replays.{legal-take}
use Rattle.pf_model.proofs.laws.prefix_is_legal.Goals as goal

pub returns : goal.returns
returns c m es n l = legal-take 0 m es n l
