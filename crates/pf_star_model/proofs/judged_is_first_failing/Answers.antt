use Rattle.pf_star_model.proofs.Judging.{judged_is_first_failing}
use Rattle.pf_star_model.proofs.judged_is_first_failing.Goals as goal

pub returns : goal.returns
returns c m lent bands chunk op ok same ends apex = judged_is_first_failing m lent bands chunk op ok same ends.0 ends.1 apex
