use Rattle.pf_wishes.proofs.Mesh.{no_shorter_no_flip}
use Rattle.pf_wishes.proofs.laws.no_shorter_no_flip.Goals as goal

pub returns : goal.returns
returns c = no_shorter_no_flip
