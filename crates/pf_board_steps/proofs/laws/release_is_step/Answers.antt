use Rattle.pf_board_steps.proofs.Steps.{releases_step}
use Rattle.pf_board_steps.proofs.laws.release_is_step.Goals as goal

pub returns : goal.returns
returns c o slots id v n star r actor mine clear = releases_step o slots id v n star r actor mine clear
