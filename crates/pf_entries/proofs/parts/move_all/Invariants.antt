use Rattle.std.proofs.Common.{◌≡◌, ◌+◌, ◌++◌}
use Rattle.std.specs.List.Sorted.{IsPermutation}
use Rattle.pf_entries.specs.Inside.{entries_in, room_in, HasRoom}
use Rattle.pf_entries.proofs.parts.move_all.Given as goal

abbrev pub invariant-loop-items : goal.invariant-loop-items
invariant-loop-items l =
    record {
      entries : IsPermutation (entries_in l.initial.left ++ entries_in l.initial.to) (entries_in l.left ++ entries_in l.to);
      room : room_in l.left + room_in l.to ≡ room_in l.initial.left + room_in l.initial.to;
      roomy : HasRoom l.initial.left → HasRoom l.initial.to → HasRoom l.left × HasRoom l.to;
    }
