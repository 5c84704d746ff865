use Rattle.pf_core_model.proofs.Learnt.{notes}
use Rattle.pf_core_model.proofs.laws.note_keeps_sound.Goals as goal

pub returns : goal.returns
returns c o words homes views log id v s at = notes o words homes views log s id v at
