use Rattle.std.proofs.Common.{◌≡◌, ◌-◌, drop, length}
use Rattle.std.specs.Prelude.{filter_map}
use Rattle.pf_model.specs.Rising.{insert_all_by}
use Rattle.pf_model.specs.Stars.{spoke_lt}
use Rattle.pf_patch.specs.Tris.{spoke_in}
use Rattle.pf_patch.proofs.put.put_all.Given as goal

abbrev pub invariant-loop-k : goal.invariant-loop-k
invariant-loop-k l = l.spokes.items ≡ insert_all_by spoke_lt (filter_map (spoke_in l.n) (drop (length l.added - l.k) l.added)) l.fn.spokes.items
