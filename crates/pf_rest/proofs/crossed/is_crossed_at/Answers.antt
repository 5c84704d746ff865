use Rattle.std.proofs.Common.{List, map, sym, ◌∙◌, ap, subst, arith}
use Rattle.pf_model.specs.Lengths.{Edge}
use Rattle.pf_edge_list.specs.declared.edges.Sided.{Sided}
use Rattle.pf_edge_list.specs.Edges.{sided_edge, IsOnlyIn}
use Rattle.pf_edge_list.proofs.EdgeSearch.{only-between}
use Rattle.pf_rest.proofs.Uncrossed.{absent-none, only-to}
use Rattle.pf_rest.proofs.crossed.is_crossed_at.Goals as goal

pub returns : goal.returns
returns c = λ m ok are none. record {
  each = λ w rising named off.
      let items : List Sided = c.args.edges.now.list.items in
      let e : Edge = record { lo = c.args.v; hi = w } in
      let only = only-between items e c.start-from.result c.end.result (c.start-from.ensures are.starts) (c.end.ensures are.starts) in
      let within : IsOnlyIn items e c.start-from.result c.min-to.result = only-to items e c.start-from.result c.end.result c.min-to.result only (omega (arith, c.min-to.ensures, c.len.ensures, c.args.edges.now.list.ok)) in
      absent-none m ok c.deref.result.now (ap (map sided_edge) c.deref.ensures.value ∙ are.all) c.args.v w rising
      (c.is_crossed_in.ensures w named off none (subst (λ l. IsOnlyIn l e c.start-from.result c.min-to.result) (sym c.deref.ensures.value) within));
}
