use Rattle.pf_model.proofs.Walks.{walk_ends_at_terminal}
use Rattle.pf_model.proofs.laws.walk_ends_at_terminal_edge.Goals as goal

pub returns : goal.returns
returns c m a b edge = walk_ends_at_terminal m a b edge
