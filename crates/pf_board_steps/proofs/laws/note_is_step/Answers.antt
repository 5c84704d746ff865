use Rattle.pf_board_steps.proofs.Steps.{notes_step}
use Rattle.pf_board_steps.proofs.laws.note_is_step.Goals as goal

pub returns : goal.returns
returns c o slots id me actor = notes_step o slots id me actor
