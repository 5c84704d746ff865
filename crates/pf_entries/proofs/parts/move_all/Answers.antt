use Rattle.std.proofs.Common.{arith}
use Rattle.std.proofs.lemmas.List.Sorted.{IsPermutation-trans}
use Rattle.pf_entries.specs.Inside.{entries_in}
use Rattle.pf_entries.proofs.Orders.{turned}
use Rattle.pf_entries.proofs.parts.move_all.Goals as goal

pub loop-items-preserved : goal.loop-items-preserved
loop-items-preserved c =
    rw (c.replace-left.ensures.value, c.replace-left.ensures.after, c.replace.ensures.value, c.deref_mut.ensures.value)
    (let i = rw c.in-Some.ensures at c.loop-items.invariant in
    record {
      entries = IsPermutation-trans _ _ _ i.entries (turned c.in-Some.items.items (entries_in c.in-Some.rest.value) (entries_in c.loop-items.to));
      room = omega (arith, i.room);
      roomy = λ h k. let p = i.roomy h k in (p.0.1, (p.0.0, p.1));
    })
