use Rattle.std.proofs.Common.{◌∙◌, sym}
use Rattle.pf_core_model.proofs.Sharing.{none_due}
use Rattle.pf_ghost.proofs.ready.list_with.Goals as goal

pub returns-in-None : goal.returns-in-None
returns-in-None c = rw c.in-None.is (c.none.ensures ∙ sym (none_due 0 c.args.chunks))
