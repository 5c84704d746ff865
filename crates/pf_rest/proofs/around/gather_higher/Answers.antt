use Rattle.std.proofs.Common.{subst, sym}
use Rattle.std.specs.Prelude.{All}
use Rattle.pf_edge_list.specs.Edges.{IsListed}
use Rattle.pf_rest.proofs.StarAround.{arm-left}
use Rattle.pf_rest.proofs.around.gather_higher.Goals as goal

pub row-preserved : goal.row-preserved
row-preserved c = record {
  part = λ m ok s p.
      let table = c.args.table.now.sides in
      let listed = subst (λ l. All (IsListed table) l) (sym c.deref-in-row.ensures.value) c.requires in
      c.gather_arm.ensures.part m c.args.u ok s (arm-left table c.in-Some.e c.args.u (c.in-Some.ensures table listed) c.if-e-u.false) (c.row.invariant.part m ok s p);
  spots = λ range begun. c.gather_arm.ensures.spots range (c.row.invariant.spots range begun);
}
