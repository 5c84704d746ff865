use Rattle.pf_board_steps.proofs.Steps.{births_step}
use Rattle.pf_board_steps.proofs.laws.birth_is_step.Goals as goal

pub returns : goal.returns
returns c o slots id me n is = births_step o slots id me n is
