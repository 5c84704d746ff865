use Rattle.pf_core_model.proofs.Learnt.{finds_never}
use Rattle.pf_core_model.proofs.laws.never_keeps_sound.Goals as goal

pub returns : goal.returns
returns c o words homes views log id v s at n = finds_never o words homes views log s id n v at
