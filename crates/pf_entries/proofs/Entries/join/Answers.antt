use Rattle.std.proofs.Common.{◌∙◌, sym}
use Rattle.pf_entries.specs.Inside.{entries_in}
use Rattle.pf_entries.proofs.Orders.{both_joined}
use Rattle.pf_entries.proofs.Tickets.{apart_kept, apart_joined, map_kept, map_joined}
use Rattle.pf_entries.proofs.Entries.join.Goals as goal

pub invariant_of-self : goal.invariant_of-self
invariant_of-self c =
    let none = rw (← c.self.view_is, ← c.other.view_is) at c.requires in
    let apart = apart_joined _ _ none c.self.invariant.apart c.other.invariant.apart in
    record {
      room = c.move_all.ensures.roomy c.other.invariant.room c.self.invariant.room;
      apart = apart_kept _ _ (both_joined (entries_in c.other.inside.ready) (entries_in c.self.inside.ready) (entries_in c.other.inside.full) (entries_in c.self.inside.full) _ _ c.move_all.ensures.entries c.move_all-2.ensures.entries) apart;
    }

pub returns-clause-entries : goal.returns-clause-entries
returns-clause-entries c =
    let none = rw (← c.self.view_is, ← c.other.view_is) at c.requires in
    let apart = apart_joined _ _ none c.self.invariant.apart c.other.invariant.apart in
    rw (← c.self.view_is, ← c.other.view_is) (sym (map_kept _ _ (both_joined (entries_in c.other.inside.ready) (entries_in c.self.inside.ready) (entries_in c.other.inside.full) (entries_in c.self.inside.full) _ _ c.move_all.ensures.entries c.move_all-2.ensures.entries) apart) ∙ map_joined _ _)
