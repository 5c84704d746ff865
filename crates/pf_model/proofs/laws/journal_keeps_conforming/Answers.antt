use Rattle.pf_model.proofs.ReplayKeeps.{legal_keeps}
use Rattle.pf_model.proofs.laws.journal_keeps_conforming.Goals as goal

pub returns : goal.returns
returns c m entries ok fresh legal = (legal_keeps m entries ok fresh legal).conforming
