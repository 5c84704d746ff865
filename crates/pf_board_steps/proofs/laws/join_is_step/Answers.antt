use Rattle.pf_board_steps.proofs.Steps.{joins_step}
use Rattle.pf_board_steps.proofs.laws.join_is_step.Goals as goal

pub returns : goal.returns
returns c o id v other u actor empty = joins_step o id v other u actor empty
