use Rattle.pf_entries.proofs.Orders.{added_behind, added_and_turned}
use Rattle.pf_entries.proofs.parts.add_to.Goals as goal

pub returns-then-len-capacity-clause-entries : goal.returns-then-len-capacity-clause-entries
returns-then-len-capacity-clause-entries c =
    rw (← c.replace.ensures.value, c.in-Some.ensures, c.push_reserved.ensures.items) (added_behind _ _ _ _)

pub returns-else-len-capacity-clause-entries : goal.returns-else-len-capacity-clause-entries
returns-else-len-capacity-clause-entries c =
    rw (c.replace-else-len-capacity-2.ensures.value, c.replace-else-len-capacity-2.ensures.after, c.replace-else-len-capacity.ensures.value, c.deref_mut.ensures.value, ← c.replace.ensures.value, c.in-Some.ensures, c.push_reserved.ensures.items)
    (added_and_turned _ _ _ _)
