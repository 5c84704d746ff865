use Rattle.pf_board_steps.proofs.Ends.{board_closes}
use Rattle.pf_board_steps.proofs.laws.board_closes.Goals as goal

pub returns : goal.returns
returns c o id v words lists actor alone empty end = board_closes o id v words lists actor alone empty end
