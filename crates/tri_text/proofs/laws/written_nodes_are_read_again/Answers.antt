use Rattle.tri_text.proofs.Again.{nodes_again}
use Rattle.tri_text.proofs.laws.written_nodes_are_read_again.Goals as goal

pub returns : goal.returns
returns c = nodes_again
