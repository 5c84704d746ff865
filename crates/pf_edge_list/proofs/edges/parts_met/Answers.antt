use Rattle.std.proofs.Common.{◌++◌, drop, map, append_assoc, sym, ◌∙◌, ap, ◌+◌}
use Rattle.pf_edge_list.specs.Edges.{counted_from, part_of, sided_edge}
use Rattle.pf_edge_list.proofs.SpanLemmas.{counted_from-more}
use Rattle.pf_edge_list.proofs.edges.parts_met.Goals as goal

pub loop-at-preserved : goal.loop-at-preserved
loop-at-preserved c = (
  λ m s corner.
      let taken = map sided_edge (part_of corner c.loop-at.parts) in
      let left = counted_from m.tris corner (drop (c.loop-at.at + 1) c.args.tris.now) in
      ap (λ l. l ++ left) (c.in_ok-push_corners.ensures.counted m s corner)
      ∙ append_assoc taken _ left
      ∙ ap (λ l. taken ++ l) (sym (counted_from-more m.tris c.args.tris.now corner c.loop-at.at _ c.loop-at-test.true))
      ∙ c.loop-at.invariant.0 m s corner,
  λ corner. c.in_ok-push_corners.ensures.listed corner (c.loop-at.invariant.1 corner),
)
