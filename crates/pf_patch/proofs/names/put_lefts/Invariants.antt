use Rattle.std.proofs.Common.{◌≡◌, ◌-◌, drop, length}
use Rattle.std.specs.Prelude.{map}
use Rattle.pf_patch.specs.Plans.{put_names}
use Rattle.pf_patch.proofs.names.put_lefts.Given as goal

abbrev pub invariant-loop-k : goal.invariant-loop-k
invariant-loop-k l = l.names.items ≡ put_names (map (λ s. s.left) (drop (length l.spokes - l.k) l.spokes)) l.fn.names.items
