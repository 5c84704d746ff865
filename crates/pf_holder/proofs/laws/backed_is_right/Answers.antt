use Rattle.pf_core_model.proofs.Right.{answers_right}
use Rattle.pf_core_model.specs.Right.{HasGained}
use Rattle.pf_holder.proofs.Told.{backed_told}
use Rattle.pf_holder.proofs.laws.backed_is_right.Goals as goal

pub returns : goal.returns
returns c o words homes views log id v s at number seen rich chunk op before left a backed entered others =
    answers_right o words homes views log s id v at (record { number = number; seen = seen; allowance = rich; chunk = chunk; op = op }) a
    (backed_told o number seen rich chunk op (HasGained v) before v.entries left a backed entered others)
