use Rattle.pf_core_model.proofs.Learnt.{refuses}
use Rattle.pf_core_model.proofs.laws.refusal_keeps_sound.Goals as goal

pub returns : goal.returns
returns c o words homes views log id v s at chunk op why fails = refuses o words homes views log s id v chunk op why at fails
