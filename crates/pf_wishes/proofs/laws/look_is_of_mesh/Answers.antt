use Rattle.pf_wishes.proofs.Mesh.{look_is_of_mesh}
use Rattle.pf_wishes.proofs.laws.look_is_of_mesh.Goals as goal

pub returns : goal.returns
returns c = look_is_of_mesh
