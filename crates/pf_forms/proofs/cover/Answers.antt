use Rattle.std.proofs.Common.{◌∙◌, sym, Bool, arith, w64, to_z, of_z}
use Rattle.std.specs.Prelude.{pos}
use Rattle.pf_model.specs.declared.Tri.{Tri}
use Rattle.pf_model.specs.Mesh.{place_of}
use Rattle.pf_sums.specs.Inside.{is_strictly_inside}
use Rattle.pf_forms.proofs.Counts.{passing-next, failing-next}
use Rattle.pf_forms.proofs.cover.Goals.{then-covers, else-covers}
use Rattle.pf_forms.proofs.cover.Goals as goal

-- the triangle has the point strictly inside
abbrev holds : goal.Joined-covers → Tri → Bool
holds c t = is_strictly_inside (pos c.args.q) record { x = to_z w64 (of_z w64 c.args.x); y = to_z w64 (of_z w64 c.args.y) } (place_of c.args.m.now.mesh t.a) (place_of c.args.m.now.mesh t.b) (place_of c.args.m.now.mesh t.c)

pub loop-tri-preserved : goal.loop-tri-preserved
loop-tri-preserved c =
    record {
      counted = elim c.if-covers.branch [
        | then-covers w ↦ let e = passing-next (holds c) c.tris-tri-items.result.now c.loop-tri.tri-index _ c.loop-tri-test.true (sym c.covers.ensures ∙ w.if-covers.true) in omega (arith, e, w.count-is, c.loop-tri.invariant.counted)
        | else-covers w ↦ let e = failing-next (holds c) c.tris-tri-items.result.now c.loop-tri.tri-index _ c.loop-tri-test.true (sym c.covers.ensures ∙ w.if-covers.false) in omega (arith, e, w.count-is, c.loop-tri.invariant.counted)
      ];
      few = elim c.if-covers.branch [ then-covers w ↦ omega (arith, w.count-is, c.loop-tri.invariant.few) | else-covers w ↦ omega (arith, w.count-is, c.loop-tri.invariant.few) ];
    }
