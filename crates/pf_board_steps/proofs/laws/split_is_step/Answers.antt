use Rattle.pf_board_steps.proofs.Steps.{splits_step}
use Rattle.pf_board_steps.proofs.laws.split_is_step.Goals as goal

pub returns : goal.returns
returns c o id b share v spare empty rich = splits_step o id b share v spare empty rich
