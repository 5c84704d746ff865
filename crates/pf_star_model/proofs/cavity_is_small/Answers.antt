use Rattle.pf_star_model.proofs.Needs.{cavity_small}
use Rattle.pf_star_model.proofs.cavity_is_small.Goals as goal

pub returns : goal.returns
returns c m chunk op names ok p d within = cavity_small m chunk op names ok p d within
