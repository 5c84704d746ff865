use Rattle.pf_star_model.proofs.Normals.{normal_is_patched}
use Rattle.pf_star_model.proofs.normal_is_patched.Goals as goal

pub returns : goal.returns
returns c lent new op = normal_is_patched lent new op
