use Rattle.pf_geom.proofs.Orientations.{orient_of-cuts}
use Rattle.pf_geom.proofs.flip_cuts_agree.Goals as goal

pub returns : goal.returns
returns c p q c' d = orient_of-cuts p q c' d
