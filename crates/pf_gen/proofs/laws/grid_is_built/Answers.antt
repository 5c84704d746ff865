use Rattle.pf_gen.proofs.Faults.{grid_is_built}
use Rattle.pf_gen.proofs.laws.grid_is_built.Goals as goal

pub returns : goal.returns
returns c = grid_is_built
