use Rattle.pf_star_model.proofs.Needs.{needed_is_near}
use Rattle.pf_star_model.proofs.needed_is_near.Goals as goal

pub returns : goal.returns
returns c lent op n one two h = needed_is_near lent op n one two h
