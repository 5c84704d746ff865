use Rattle.pf_star_model.proofs.Copies.{sharer_below}
use Rattle.pf_star_model.proofs.sharers_are_chunks.Goals as goal

pub returns : goal.returns
returns c m k n ok h = sharer_below m ok k n h
