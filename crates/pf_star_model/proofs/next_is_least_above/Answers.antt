use Rattle.pf_star_model.proofs.Needs.{next_is_least_above}
use Rattle.pf_star_model.proofs.next_is_least_above.Goals as goal

pub returns : goal.returns
returns c ss k = next_is_least_above ss k
