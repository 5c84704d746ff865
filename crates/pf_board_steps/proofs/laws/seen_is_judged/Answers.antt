use Rattle.pf_board_steps.proofs.Guards.{seen_judged}
use Rattle.pf_board_steps.proofs.laws.seen_is_judged.Goals as goal

pub returns : goal.returns
returns c v chunk op x seen = seen_judged v chunk op x seen
