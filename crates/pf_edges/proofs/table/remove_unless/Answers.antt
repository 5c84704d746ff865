use Rattle.std.proofs.Common.{◌∙◌, sym}
use Rattle.pf_edges.specs.Table.{side_at}
use Rattle.pf_edges.proofs.TableSteps.{removed}
use Rattle.pf_edges.proofs.table.remove_unless.Goals as goal

pub returns-then-not-is_side_of-clause-sides : goal.returns-then-not-is_side_of-clause-sides
returns-then-not-is_side_of-clause-sides c = λ a b.
    c.remove_edge.ensures.sides a b
    ∙ removed c.args.p c.args.q a b c.args.new.now (side_at c.args.sides.now a b) (sym c.is_side_of.ensures ∙ c.if-not-is_side_of.true)
