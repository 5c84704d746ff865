use Rattle.pf_wishes.proofs.Firsts.{first_wish_is_by_chunk}
use Rattle.pf_wishes.proofs.laws.first_wish_is_by_chunk.Goals as goal

pub returns : goal.returns
returns c = first_wish_is_by_chunk
