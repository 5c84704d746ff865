use Rattle.pf_core_model.proofs.Parted.{joins}
use Rattle.pf_core_model.proofs.laws.join_keeps_sound.Goals as goal

pub returns : goal.returns
returns c o words homes views log id v s at other u ne there actor empty = joins o words homes views log s id other v u at ne there actor empty
