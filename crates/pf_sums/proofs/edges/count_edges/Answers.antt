use Rattle.std.proofs.Common.{◌∙◌, length, sym, ap, arith}
use Rattle.std.proofs.lemmas.List.{drop_all}
use Rattle.pf_model.specs.Sums.{is_counted}
use Rattle.pf_sums.proofs.EdgeLemmas.{left-passes, left-fails}
use Rattle.pf_sums.proofs.edges.count_edges.Goals.{then-is_counted, else-is_counted}
use Rattle.pf_sums.proofs.edges.count_edges.Goals as goal

pub loop-from-preserved : goal.loop-from-preserved
loop-from-preserved c =
    record {
      counted =
          λ ts are. elim c.if-is_counted.branch [
            | then-is_counted w ↦ let e = left-passes (is_counted ts) c.args.edges.now c.loop-from.from-index _ c.loop-from-test.true (sym (c.is_counted.ensures ts are) ∙ w.if-is_counted.true) in omega (arith, ap length e, w.count-is, c.loop-from.invariant.counted ts are)
            | else-is_counted w ↦ let e = left-fails (is_counted ts) c.args.edges.now c.loop-from.from-index _ c.loop-from-test.true (sym (c.is_counted.ensures ts are) ∙ w.if-is_counted.false) in omega (arith, ap length e, w.count-is, c.loop-from.invariant.counted ts are)
          ];
      few = elim c.if-is_counted.branch [ then-is_counted w ↦ omega (arith, w.count-is, c.loop-from.invariant.few) | else-is_counted w ↦ omega (arith, w.count-is, c.loop-from.invariant.few) ];
    }

pub returns-clause-count : goal.returns-clause-count
returns-clause-count c =
    λ ts are. let e = drop_all c.loop-from.from-index c.args.edges.now c.loop-from-test.false in
    let h = rw e at (c.loop-from.invariant.counted ts are) in
    omega (arith, h)
