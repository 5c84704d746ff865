use Rattle.pf_board_steps.proofs.Steps.{commits_step}
use Rattle.pf_board_steps.proofs.laws.commit_is_step.Goals as goal

pub returns : goal.returns
returns c o slots id me e fresh actor clear rich judged cavity patch = commits_step o slots id me e fresh actor clear rich judged cavity patch
