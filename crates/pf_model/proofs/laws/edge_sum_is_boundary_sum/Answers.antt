use Rattle.pf_model.proofs.EdgeSum.{conforming-sound, edge_sum}
use Rattle.pf_model.proofs.laws.edge_sum_is_boundary_sum.Goals as goal

pub returns : goal.returns
returns c m f ok opposite = edge_sum m.tris (conforming-sound m ok) f opposite
