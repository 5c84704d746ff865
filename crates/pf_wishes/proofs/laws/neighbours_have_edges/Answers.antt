use Rattle.pf_wishes.proofs.Mesh.{neighbours_have_edges}
use Rattle.pf_wishes.proofs.laws.neighbours_have_edges.Goals as goal

pub returns : goal.returns
returns c = neighbours_have_edges
