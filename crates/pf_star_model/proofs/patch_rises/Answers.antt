use Rattle.pf_star_model.proofs.Operations.{patch_rises}
use Rattle.pf_star_model.proofs.patch_rises.Goals as goal

pub returns : goal.returns
returns c lent new op = patch_rises lent new op
