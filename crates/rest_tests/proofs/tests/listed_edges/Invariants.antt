use Rattle.std.proofs.Common.{All}
use Rattle.pf_edge_list.specs.Edges.{IsListed}
use Rattle.rest_tests.proofs.tests.listed_edges.Given as goal

abbrev pub invariant-loop-a : goal.invariant-loop-a
invariant-loop-a l = All (IsListed l.table.sides) l.list.items
