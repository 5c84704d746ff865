use Rattle.pf_core_model.proofs.Learnt.{loses}
use Rattle.pf_core_model.proofs.laws.lost_keeps_sound.Goals as goal

pub returns : goal.returns
returns c o words homes views log id v s at n k = loses o words homes views log s id n k v at
