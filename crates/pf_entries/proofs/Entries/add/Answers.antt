use Rattle.std.proofs.Common.{sym}
use Rattle.pf_entries.proofs.Tickets.{apart_kept, apart_more, map_kept}
use Rattle.pf_entries.proofs.Entries.add.Goals as goal

pub invariant_of-self : goal.invariant_of-self
invariant_of-self c =
    let absent = rw (← c.self.view_is) at c.requires.absent in
    record { room = c.add_to.ensures.stays; apart = apart_kept _ _ c.add_to.ensures.entries (apart_more c.args.e _ absent c.self.invariant.apart) }

pub returns-clause-entries : goal.returns-clause-entries
returns-clause-entries c =
    let absent = rw (← c.self.view_is) at c.requires.absent in
    rw (← c.self.view_is) (sym (map_kept _ _ c.add_to.ensures.entries (apart_more c.args.e _ absent c.self.invariant.apart)))
