use Rattle.pf_gen.proofs.Fits.{grid_is_fit}
use Rattle.pf_gen.proofs.laws.grid_is_fit.Goals as goal

pub returns : goal.returns
returns c = grid_is_fit
