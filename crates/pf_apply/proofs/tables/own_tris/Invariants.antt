use Rattle.std.proofs.Common.{◌≡◌, ◌++◌, drop, take, map}
use Rattle.pf_apply.specs.Tables.{owned_by_table}
use Rattle.pf_apply.proofs.tables.own_tris.Given as goal

abbrev pub invariant-loop-t : goal.invariant-loop-t
invariant-loop-t l = l.t-items ≡ map (owned_by_table l.sides) (take l.t-index l.fn.tris.items) ++ drop l.t-index l.fn.tris.items
