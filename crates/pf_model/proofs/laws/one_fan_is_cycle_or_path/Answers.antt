use Rattle.pf_model.specs.Stars.{spokes_of}
use Rattle.pf_model.proofs.Spokes.{spokes-simple}
use Rattle.pf_model.proofs.OneFan.{one_fan-means, one_fan-from}
use Rattle.pf_model.proofs.laws.one_fan_is_cycle_or_path.Goals as goal

pub returns : goal.returns
returns c m n ok = (one_fan-means (spokes_of m n) (spokes-simple m ok n), one_fan-from (spokes_of m n) (spokes-simple m ok n))
