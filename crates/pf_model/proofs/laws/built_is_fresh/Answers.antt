use Rattle.pf_model.proofs.BuiltFresh.{built-fresh}
use Rattle.pf_model.proofs.laws.built_is_fresh.Goals as goal

pub returns : goal.returns
returns c points tris m ok = built-fresh points tris m ok
