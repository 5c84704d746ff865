use Rattle.std.proofs.Common.{subst, sym}
use Rattle.std.specs.Prelude.{All}
use Rattle.pf_edge_list.specs.Edges.{IsListed}
use Rattle.pf_rest.proofs.StarAround.{arm-right}
use Rattle.pf_rest.proofs.around.gather_lower.Goals as goal

pub chain-preserved : goal.chain-preserved
chain-preserved c = record {
  part = λ m ok s p.
      let table = c.args.table.now.sides in
      let listed = subst (λ l. All (IsListed table) l) (sym c.deref-in-chain.ensures.value) c.requires in
      c.gather_arm.ensures.part m c.args.u ok s (arm-right table c.in-Some.e c.args.u (c.in-Some.ensures table listed) c.if-e-u.false) (c.chain.invariant.part m ok s p);
  spots = λ range begun. c.gather_arm.ensures.spots range (c.chain.invariant.spots range begun);
}
