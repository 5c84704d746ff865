use Rattle.pf_core_model.proofs.Parted.{splits}
use Rattle.pf_core_model.proofs.laws.split_keeps_sound.Goals as goal

pub returns : goal.returns
returns c o words homes views log id v s at b share spare empty rich = splits o words homes views log s id b share v at spare empty rich
