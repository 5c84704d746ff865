use Rattle.pf_core_model.proofs.Learnt.{finds_dead}
use Rattle.pf_core_model.proofs.laws.find_keeps_sound.Goals as goal

pub returns : goal.returns
returns c o words homes views log id v s at n near is = finds_dead o words homes views log s id n v at near is
