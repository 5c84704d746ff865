use Rattle.pf_board_steps.proofs.Guards.{made_patch}
use Rattle.pf_board_steps.proofs.laws.made_is_patch.Goals as goal

pub returns : goal.returns
returns c v e can = made_patch v e can
