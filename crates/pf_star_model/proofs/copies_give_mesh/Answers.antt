use Rattle.pf_star_model.proofs.Assembled.{copies_give_mesh}
use Rattle.pf_star_model.proofs.copies_give_mesh.Goals as goal

pub returns : goal.returns
returns c m ok = copies_give_mesh m ok
