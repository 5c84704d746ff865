use Rattle.pf_model.proofs.Replays.{unrefused-legal, legal-unrefused}
use Rattle.pf_model.proofs.laws.legal_is_unrefused.Goals as goal

pub returns : goal.returns
returns c m es h = (unrefused-legal 0 m es h, λ ok f l. legal-unrefused 0 m es ok f l)
