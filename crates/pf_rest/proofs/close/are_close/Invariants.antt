use Rattle.std.proofs.Common.{◌≡◌, ℕ, ◌<◌, true, get_or}
use Rattle.pf_rest.specs.Rest.{is_reached}
use Rattle.pf_edges.specs.Table.{point_or_origin}
use Rattle.pf_rest.proofs.close.are_close.Given as goal

-- each node that was looked at is close
abbrev pub invariant-loop-x : goal.invariant-loop-x
invariant-loop-x l = (k d : ℕ) → k < l.x-index → is_reached l.at (point_or_origin l.table.nodes.items (get_or l.names k d)) l.limit ≡ true
