use Rattle.pf_core_model.proofs.Sharing.{sharers_due}
use Rattle.pf_core_model.proofs.laws.sharers_are_due.Goals as goal

pub returns : goal.returns
returns c chunks star chunk low = sharers_due chunks star chunk low
