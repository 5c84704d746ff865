use Rattle.pf_hand.proofs.Told.{told_right}
use Rattle.pf_hand.proofs.laws.hand_is_right.Goals as goal

pub returns : goal.returns
returns c = told_right
