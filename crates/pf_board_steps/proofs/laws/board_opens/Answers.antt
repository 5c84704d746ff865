use Rattle.pf_board_steps.proofs.Ends.{board_opens}
use Rattle.pf_board_steps.proofs.laws.board_opens.Goals as goal

pub returns : goal.returns
returns c o lists can long shown = board_opens o lists can long shown
