use Rattle.pf_board_steps.proofs.Steps.{refuses_step}
use Rattle.pf_board_steps.proofs.laws.refusal_is_step.Goals as goal

pub returns : goal.returns
returns c o slots id me chunk op why actor judged = refuses_step o slots id me chunk op why actor judged
