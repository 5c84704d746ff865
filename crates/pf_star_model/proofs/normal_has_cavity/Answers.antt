use Rattle.pf_star_model.proofs.Normals.{normal_has_cavity}
use Rattle.pf_star_model.proofs.normal_has_cavity.Goals as goal

pub returns : goal.returns
returns c m chunk op n = normal_has_cavity m chunk op n
