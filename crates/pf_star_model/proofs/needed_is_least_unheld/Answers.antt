use Rattle.pf_star_model.proofs.Needs.{needed_is_least_unheld}
use Rattle.pf_star_model.proofs.needed_is_least_unheld.Goals as goal

pub returns : goal.returns
returns c m held chunk op ok a s p = needed_is_least_unheld m held chunk op ok a s p
