use Rattle.std.proofs.Common.{◌∙◌, ap}
use Rattle.std.specs.Prelude.{is_none}
use Rattle.pf_edge_list.specs.Edges.{sided_edge}
use Rattle.pf_rest.proofs.WalksLocated.{edge_sides-shown}
use Rattle.pf_rest.proofs.FlipAlone.{turning-sorted, none-told}
use Rattle.pf_rest.proofs.lines.can_flip.Goals as goal

pub returns : goal.returns
returns c = λ m ok s h.
    none-told c.flip_alone.result _ c.is_none.ensures
    ∙ ap is_none (c.flip_alone.ensures m s (edge_sides-shown m c.args.table.now.sides c.args.table.now.nodes.items c.args.e s h.sided))
    ∙ turning-sorted m ok (sided_edge c.args.e) h.sorted
