use Rattle.std.proofs.Common.{◌≡◌, true, sym, ◌∙◌, subst, arith}
use Rattle.std.proofs.lemmas.Int.{to_z-of_z}
use mir.Syntax.{w64}
use mir.Val.{to_z, of_z}
use Rattle.std.specs.Prelude.{slice_index_or}
use Rattle.pf_edges.specs.Table.{point_or_origin}
use Rattle.pf_rest.specs.Rest.{is_reached}
use Rattle.pf_rest.proofs.Near.{close-more, close-shown}
use Rattle.pf_rest.proofs.close.are_close.Goals as goal

pub loop-x-preserved : goal.loop-x-preserved
loop-x-preserved c =
    close-more c.point-at.result (point_or_origin c.args.table.now.nodes.items) c.args.names.now _ c.loop-x.x-index 0 c.loop-x-test.true
    (subst (λ p. is_reached c.point-at.result p (to_z w64 (of_z w64 c.args.limit)) ≡ true) c.point.ensures.value (sym c.is_within.ensures ∙ c.if-not-is_within.false))
    c.loop-x.invariant

pub returns : goal.returns
returns c = λ m us s bands around h.
    close-shown c.args.table.now.sides c.args.table.now.nodes.items m us c.args.names.now c.point-at.result c.args.limit s bands around
    (λ k d l. subst (λ z. is_reached c.point-at.result (point_or_origin c.args.table.now.nodes.items (slice_index_or c.args.names.now k d)) z ≡ true) (to_z-of_z w64 c.args.limit c.ranges.limit) (c.loop-x.invariant k d (omega (arith, l, c.loop-x-test.false))))
