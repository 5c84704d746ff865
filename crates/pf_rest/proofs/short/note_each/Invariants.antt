use Rattle.std.proofs.Common.{◌≡◌}
use Rattle.pf_model.specs.Mesh.{Undivided}
use Rattle.pf_model.specs.Conforming.{IsConforming}
use Rattle.pf_rules.specs.Contract.{AreAround, IsStar}
use Rattle.pf_edge_list.specs.Edges.{AreEdges}
use Rattle.pf_rest.specs.Rest.{AreNotes}
use Rattle.pf_edges.specs.Table.{Shows}
use Rattle.pf_rest.proofs.short.note_each.Given as goal

-- what was noted is true
abbrev pub invariant-loop-place : goal.invariant-loop-place
invariant-loop-place l =
    (m : Undivided) → IsConforming m → Shows l.table.sides l.table.nodes.items m → m.bands ≡ l.bands
    → AreEdges m l.edges → IsStar m l.u l.lists.star.items → AreAround l.lists.star.items l.lists.names.items
    → AreNotes m l.edges.list.items l.fn.notes → AreNotes m l.edges.list.items l.notes
