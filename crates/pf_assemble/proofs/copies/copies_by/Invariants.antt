use Rattle.std.proofs.Common.{◌≡◌, flat_map, map}
use Rattle.std.specs.List.{range_with_len}
use Rattle.pf_locks.specs.Closes.{shown_copy}
use Rattle.pf_assemble.specs.Divided.{copies_in}
use Rattle.pf_assemble.proofs.copies.copies_by.Given as goal

-- the copies of the chunks before this one
abbrev pub invariant-chunks : goal.invariant-chunks
invariant-chunks l = map shown_copy l.list.items ≡ flat_map (λ c. copies_in c l.stars) (range_with_len 0 l.chunk)
