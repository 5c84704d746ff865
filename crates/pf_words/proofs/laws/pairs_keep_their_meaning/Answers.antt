use Rattle.pf_words.proofs.Pairs.{pairs_keep_their_meaning}
use Rattle.pf_words.proofs.laws.pairs_keep_their_meaning.Goals as goal

pub returns : goal.returns
returns c = pairs_keep_their_meaning
