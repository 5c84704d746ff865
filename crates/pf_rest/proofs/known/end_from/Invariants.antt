use Rattle.std.proofs.Common.{◌≡◌}
use Rattle.pf_model.specs.Mesh.{Undivided}
use Rattle.pf_model.specs.Wishes.{walked, terminal_of}
use Rattle.pf_edge_list.specs.Edges.{sided_edge, IsLocated}
use Rattle.pf_rest.specs.Rest.{AreAtEnds, IsFinite, LeadTo}
use Rattle.pf_edges.specs.Table.{Shows}
use Rattle.pf_rest.proofs.known.end_from.Given as goal

-- what is left of the walk ends where the whole does, and the walks from here and from all places on the way too
abbrev pub invariant-walk : goal.invariant-walk
invariant-walk l =
    IsLocated l.table.sides l.edges.list.items (sided_edge l.at.edge) l.at
    × ((m : Undivided) → Shows l.table.sides l.table.nodes.items m → AreAtEnds m l.edges.list.items l.ends → IsFinite m (sided_edge l.fn.e.edge)
    → (walked l.most m (sided_edge l.at.edge) ≡ terminal_of m (sided_edge l.fn.e.edge))
    × (terminal_of m (sided_edge l.at.edge) ≡ terminal_of m (sided_edge l.fn.e.edge))
    × LeadTo m l.edges.list.items l.way.items (terminal_of m (sided_edge l.fn.e.edge)))

abbrev pub decreases-walk : goal.decreases-walk
decreases-walk l = l.most
