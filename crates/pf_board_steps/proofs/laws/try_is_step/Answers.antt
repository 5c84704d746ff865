use Rattle.pf_board_steps.proofs.Steps.{tries}
use Rattle.pf_board_steps.proofs.laws.try_is_step.Goals as goal

pub returns : goal.returns
returns c o slots id me n actor clear near away = tries o slots id me n actor clear near away
