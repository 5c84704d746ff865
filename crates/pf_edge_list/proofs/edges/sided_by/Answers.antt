use Rattle.std.proofs.Common.{◌≡◌, ◌∙◌, sym, ap, arith}
use Rattle.std.specs.Prelude.{min, max}
use Rattle.pf_edges.specs.Table.{side_at}
use Rattle.pf_edge_list.proofs.edges.sided_by.Goals as goal

pub returns-clause-listed : goal.returns-clause-listed
returns-clause-listed c = λ table found.
    let span = c.span_of.result in
    let low : span.lo ≡ min c.args.p c.args.q = ap (λ e. e.lo) c.span_of.ensures.value in
    let high : span.hi ≡ max c.args.p c.args.q = ap (λ e. e.hi) c.span_of.ensures.value in
    let sides = c.rising.ensures.sides (side_at table) found in
    record {
      sided = record {
        left = sides.on_left ∙ (λ i. side_at table (sym low i) (sym high i));
        right = sides.on_right ∙ (λ i. side_at table (sym high i) (sym low i));
      };
      sorted = grind arith;
    }
