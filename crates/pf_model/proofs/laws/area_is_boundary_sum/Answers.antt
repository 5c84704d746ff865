use Rattle.pf_model.proofs.Boundary.{area2_of-boundary}
use Rattle.pf_model.proofs.laws.area_is_boundary_sum.Goals as goal

pub returns : goal.returns
returns c m ok = area2_of-boundary m ok
