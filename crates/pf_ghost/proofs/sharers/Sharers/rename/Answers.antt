use Rattle.pf_ghost.proofs.ByOwner.{list_renamed}
use Rattle.pf_ghost.proofs.sharers.Sharers.rename.Goals as goal

pub invariant_of-self : goal.invariant_of-self
invariant_of-self c = rw c.rename_all.ensures (list_renamed c.args.old c.args.name 0 65536 c.self.inside.list.items c.self.invariant)
