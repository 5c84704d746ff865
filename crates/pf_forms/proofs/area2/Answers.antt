use Rattle.std.proofs.Common.{◌≡◌, ◌*◌, ◌+◌, sym, subst, drop, arith, rules}
use Rattle.std.specs.Prelude.{ℤ, ◌+ℤ◌}
use mir.Syntax.{w128}
use mir.Val.{to_z, of_z}
use Rattle.std.proofs.lemmas.Int.{ints}
use Rattle.pf_geom.specs.Plane.{IsWithin}
use Rattle.pf_model.specs.Mesh.{turn_at}
use Rattle.pf_model.specs.Sums.{total, area2_of}
use Rattle.pf_forms.proofs.Totals.{summed-next, passed-sum, within-next}
use Rattle.pf_forms.proofs.area2.Goals as goal

sum_is : (c : goal.After-turn-sum) → to_z w128 (of_z w128 (to_z w128 c.loop-t.sum-bits +ℤ to_z w128 (of_z w128 c.turn-sum.result))) ≡ to_z w128 c.loop-t.sum-bits +ℤ c.turn-sum.result
sum_is c =
    let b = c.turn-sum.ensures.bounded in let w = c.loop-t.invariant.within in
    let bl = b.low in let bh = b.high in let wl = w.low in let wh = w.high in
    passed-sum (to_z w128 c.loop-t.sum-bits) c.turn-sum.result (search rules) (omega (arith, ints))

pub loop-t-preserved : goal.loop-t-preserved
loop-t-preserved c = record {
  summed =
      subst (λ (z : ℤ). z +ℤ total (λ t. turn_at c.args.m.now.mesh t.a t.b t.c) (drop (c.loop-t.t-index + 1) c.tris-t-items.result.now) ≡ area2_of c.args.m.now.mesh) (sym (sum_is c))
      (summed-next (λ t. turn_at c.args.m.now.mesh t.a t.b t.c) c.tris-t-items.result.now c.loop-t.t-index _ (to_z w128 c.loop-t.sum-bits) c.turn-sum.result (area2_of c.args.m.now.mesh)
      c.loop-t-test.true c.loop-t.invariant.summed c.turn-sum.ensures.value);
  within =
      subst (λ (z : ℤ). IsWithin (576460752303423488 * (c.loop-t.t-index + 1)) z) (sym (sum_is c))
      (within-next 576460752303423488 c.loop-t.t-index (to_z w128 c.loop-t.sum-bits) c.turn-sum.result c.loop-t.invariant.within c.turn-sum.ensures.bounded);
}
