use Rattle.pf_star_model.proofs.Normals.{normal_is_judged}
use Rattle.pf_star_model.proofs.normal_is_judged.Goals as goal

pub returns : goal.returns
returns c m lent bands chunk op = normal_is_judged m lent bands chunk op
