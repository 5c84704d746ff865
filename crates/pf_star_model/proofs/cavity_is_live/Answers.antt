use Rattle.pf_star_model.proofs.Needs.{cavity_live}
use Rattle.pf_star_model.proofs.cavity_is_live.Goals as goal

pub returns : goal.returns
returns c m chunk op ok p n h = cavity_live m ok chunk op p n h
