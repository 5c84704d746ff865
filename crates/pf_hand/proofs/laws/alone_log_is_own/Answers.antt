use Rattle.pf_hand.specs.HandLaws.{own_history}
use Rattle.pf_hand.proofs.laws.alone_log_is_own.Goals as goal

pub returns : goal.returns
returns c = own_history
