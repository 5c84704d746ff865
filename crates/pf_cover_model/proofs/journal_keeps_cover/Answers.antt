use Rattle.pf_cover_model.proofs.Covers.{replayed_cover}
use Rattle.pf_cover_model.proofs.journal_keeps_cover.Goals as goal

pub returns : goal.returns
returns c m entries ok fresh legal = replayed_cover m entries ok fresh legal
