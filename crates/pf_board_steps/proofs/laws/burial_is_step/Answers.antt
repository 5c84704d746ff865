use Rattle.pf_board_steps.proofs.Steps.{buries_step}
use Rattle.pf_board_steps.proofs.laws.burial_is_step.Goals as goal

pub returns : goal.returns
returns c o slots id v n r mine clear = buries_step o slots id v n r mine clear
